-- The number that C gets of a file that is read.
use Rattle.std.specs.Prelude.{ℕ, ◌+◌, ◌*◌, ◌^◌, cond, List, length}
use Rattle.answer.specs.Answer.{is_done}
use Rattle.answer.specs.Packed.{packed}
use Rattle.ech.specs.File.{reported_kind, pings_of, bins_of}
use Rattle.ech.specs.ReadWrite.{read_answer}
use Rattle.picture.specs.declared.Depth.{Depth}
use Rattle.netpbm.specs.File as pnm
use Rattle.netpbm.specs.ReadWrite as files

-- number + 256·kind + 65536·W + 4294967296·H; a refused read gives 0 for kind, W and H
unfoldable pub read_number : List ℕ → List ℕ → ℕ
read_number f t =
    let done = is_done (read_answer f (length t)) in
    packed (read_answer f (length t)) + cond done (reported_kind f) 0 * 2 ^ 8
    + cond done (pings_of f) 0 * 2 ^ 16 + cond done (bins_of f) 0 * 4294967296

-- of a PBM or PGM file: number + 65536·W + 4294967296·H
unfoldable pub pnm_number : Depth → List ℕ → List ℕ → ℕ
pnm_number depth f t =
    let answer = files.read_answer depth f (length t) in
    packed answer + cond (is_done answer) (pnm.pings_of depth f) 0 * 2 ^ 16
    + cond (is_done answer) (pnm.bins_of depth f) 0 * 4294967296
