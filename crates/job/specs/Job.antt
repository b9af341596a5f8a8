-- Document 01, "echtext": the parts of a job, its refusals,
-- what it prints and what it leaves in each lent buffer. Letters are their
-- ASCII numbers.
use Rattle.std.specs.Prelude.{ℕ, Bool, not, cond, ◌||◌, List, [], ◌∷◌, ltb, eqb, length, get_or, take, drop}
use Rattle.answer.specs.declared.Told.{Told}
use Rattle.answer.specs.Answer.{plain}
use Rattle.answer.specs.Refuse.{Test, refuse}
use Rattle.element.specs.Descriptor.{descriptor_length}
use Rattle.work.specs.Work.{work_tests, shortest}
use Rattle.work.specs.Prints.{printed, picture_after, result_after, scratch_after}
use Rattle.work.specs.declared.Operation.{Operation}
use Rattle.work.specs.declared.Operation.TheVariants.{Erode, Dilate, Open, Close}

-- the most bytes of a job
abbrev pub most_job : ℕ
most_job = 32768

-- a letter, a flag, and what follows them
abbrev pub letter_of : List ℕ → ℕ
letter_of job = get_or job 0 0

abbrev pub flag_of : List ℕ → ℕ
flag_of job = get_or job 1 0

abbrev pub rest_of : List ℕ → List ℕ
rest_of job = drop 2 job

-- e, d, o, c for erode, dilate, open, close
unfoldable pub known_letter : ℕ → Bool
known_letter letter = eqb letter 101 || (eqb letter 100 || (eqb letter 111 || eqb letter 99))

unfoldable pub operation_of : ℕ → Operation
operation_of letter =
    cond (eqb letter 101) Erode (cond (eqb letter 100) Dilate (cond (eqb letter 111) Open Close))

abbrev pub known_flag : ℕ → Bool
known_flag flag = eqb flag 0 || (eqb flag 1 || eqb flag 2)

-- the default element: 31 cells, dx from 0 to 30, dy 0; as a descriptor
unfoldable pub default_element : List ℕ
default_element = 31 ∷ 1 ∷ 0 ∷ 0 ∷ 255 ∷ 255 ∷ 255 ∷ 254 ∷ []

-- the trailing default: 31 cells, dx from -30 to 0, dy 0
unfoldable pub trailing_element : List ℕ
trailing_element = 31 ∷ 1 ∷ 30 ∷ 0 ∷ 255 ∷ 255 ∷ 255 ∷ 254 ∷ []

-- the element's descriptor: flag 0 takes the default, flag 2 the trailing one;
-- else it ends where its own w and h say, and the file begins there
unfoldable pub element_by : ℕ → List ℕ → List ℕ
element_by flag rest =
    cond (eqb flag 0) default_element (cond (eqb flag 2) trailing_element
    (take (descriptor_length rest) rest))

unfoldable pub file_by : ℕ → List ℕ → List ℕ
file_by flag rest = cond (eqb flag 0 || eqb flag 2) rest (drop (descriptor_length rest) rest)

abbrev pub element_in : List ℕ → List ℕ
element_in job = element_by (flag_of job) (rest_of job)

abbrev pub file_in : List ℕ → List ℕ
file_in job = file_by (flag_of job) (rest_of job)

-- ---- a job is met as 10, 4, then the file's order.
-- JOB: under 2 or over 32,768 bytes, another letter, another flag
abbrev pub job_tests : List ℕ → ℕ → ℕ → List Test
job_tests job room n =
    (ltb (length job) 2, 10)
    ∷ (ltb most_job (length job), 10)
    ∷ (not (known_letter (letter_of job)), 10)
    ∷ (not (known_flag (flag_of job)), 10)
    ∷ work_tests (element_in job) (file_in job) room n

-- the answer, with the buffers p, r, m and t
unfoldable pub job_answer : List ℕ → List ℕ → List ℕ → List ℕ → List ℕ → Told
job_answer job p r m t = refuse (job_tests job (shortest p r m) (length t)) (plain 0)

-- what is printed, and the three work buffers
abbrev pub job_printed : List ℕ → List ℕ → List ℕ → List ℕ → List ℕ → List ℕ
job_printed job p r m t =
    printed (job_answer job p r m t) (operation_of (letter_of job)) (element_in job) (file_in job) (length t)

abbrev pub job_picture : List ℕ → List ℕ → List ℕ → List ℕ → List ℕ → List ℕ
job_picture job p r m t = picture_after (job_answer job p r m t) (file_in job) p

abbrev pub job_result : List ℕ → List ℕ → List ℕ → List ℕ → List ℕ → List ℕ
job_result job p r m t =
    result_after (job_answer job p r m t) (operation_of (letter_of job)) (element_in job) (file_in job) r

abbrev pub job_scratch : List ℕ → List ℕ → List ℕ → List ℕ → List ℕ → List ℕ
job_scratch job p r m t =
    scratch_after (job_answer job p r m t) (operation_of (letter_of job)) (element_in job) (file_in job) m
