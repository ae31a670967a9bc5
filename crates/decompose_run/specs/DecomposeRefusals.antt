-- Whether `decompose` refuses a file (docs/OPERATIONS.md, 'The status'). Assumes nothing.
use Rattle.std.specs.Prelude.{ℕ, Bool, not, List, eqb}
use Rattle.file_load.specs.Load.{load_call}

-- '1 something was refused': the file has a refusal, and its text is `NO n`
unfoldable pub decompose_refused : List ℕ → Bool
decompose_refused f = not (eqb (load_call f).refusal 0)
