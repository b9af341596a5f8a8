-- The picture is copied, eroded and dilated in t.
-- What its bits count are the survivors: `survivors_counted`.
use mathlib.Core.Path.{◌≡◌, ◌∙◌}
use native.Mathlib.Omega.{arith}
use Rattle.picture.specs.declared.Depth.TheVariants.{OneBit}
use Rattle.picture.specs.Frame.{frame}
use Rattle.picture.specs.Points.{value_at}
use Rattle.sizes.specs.Spectrum.{survivors}
use Rattle.spectrum.proofs.Counted.{survivors_counted, survivors_few, few_bytes}
use Rattle.spectrum.proofs.survivors.Goals as goal
use Rattle.spectrum.proofs.survivors.Goals.{After-count}

counted : (c : After-count) → let a = c.args in
    c.count.result ≡ survivors (frame a.w a.h) (value_at OneBit a.source.now a.w) a.k
counted c = let a = c.args in
    c.count.ensures
    ∙ survivors_counted a.w a.h a.k a.source.now a.t.now _ _ _ (λ i. grind arith) c.requires.t_len
    c.copy_picture.ensures c.sweep.ensures c.sweep-2.ensures

pub copy_picture-requires : goal.copy_picture-requires
copy_picture-requires c =
    record {
      holds = c.requires.holds;
      holds_2 = record {
        some_pings = c.requires.holds.some_pings;
        few_pings = c.requires.holds.few_pings;
        few_bins = c.requires.holds.few_bins;
        long = omega (arith, c.requires.t_len);
      };
    }

pub sweep-requires : goal.sweep-requires
sweep-requires c =
    record {
      some_pings = c.requires.holds.some_pings;
      few_pings = c.requires.holds.few_pings;
      few_bins = c.requires.holds.few_bins;
      some_cells = c.requires.le_k.0;
      few_cells = omega (arith, c.requires.le_k.1);
      long = omega (arith, c.requires.t_len, c.copy_picture.auto.t);
    }

pub sweep-requires-2 : goal.sweep-requires-2
sweep-requires-2 c =
    record {
      some_pings = c.requires.holds.some_pings;
      few_pings = c.requires.holds.few_pings;
      few_bins = c.requires.holds.few_bins;
      some_cells = c.requires.le_k.0;
      few_cells = omega (arith, c.requires.le_k.1);
      long = omega (
        arith,
        c.requires.t_len,
        c.copy_picture.auto.t,
        c.sweep.auto.t,
      );
    }

pub count-requires : goal.count-requires
count-requires c =
    few_bytes c.args.w c.args.h _ c.requires.holds.few_pings c.requires.holds.few_bins
    (c.sweep-2.auto.t ∙ c.sweep.auto.t ∙ c.copy_picture.auto.t
    ∙ c.requires.t_len)

pub overflow_cast-result : goal.overflow_cast-result
overflow_cast-result c =
    let a = c.args in
    record {
      fits = omega (
        arith,
        counted c,
        survivors_few a.w a.h a.k a.source.now c.requires.holds.few_pings c.requires.holds.few_bins,
      );
    }

pub returns : goal.returns
returns c = counted c
