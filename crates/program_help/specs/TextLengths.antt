-- The names of the programs, and how many bytes their texts have. tools/help writes this file of docs/help and VERSION.
-- Assumes nothing.
use Rattle.std.specs.Prelude.{ℕ, List, [], ◌∷◌}
use Rattle.program_help.specs.declared.Program.{Program}
use Rattle.program_help.specs.declared.Program.TheVariants.{Terms, Compose, Decompose, Gateway, Confirm, Deliver, Reconcile, Query}

-- the name
abbrev pub program_name : Program → List ℕ
program_name Terms = 116 ∷ 101 ∷ 114 ∷ 109 ∷ 115 ∷ []
program_name Compose = 99 ∷ 111 ∷ 109 ∷ 112 ∷ 111 ∷ 115 ∷ 101 ∷ []
program_name Decompose = 100 ∷ 101 ∷ 99 ∷ 111 ∷ 109 ∷ 112 ∷ 111 ∷ 115 ∷ 101 ∷ []
program_name Gateway = 103 ∷ 97 ∷ 116 ∷ 101 ∷ 119 ∷ 97 ∷ 121 ∷ []
program_name Confirm = 99 ∷ 111 ∷ 110 ∷ 102 ∷ 105 ∷ 114 ∷ 109 ∷ []
program_name Deliver = 100 ∷ 101 ∷ 108 ∷ 105 ∷ 118 ∷ 101 ∷ 114 ∷ []
program_name Reconcile = 114 ∷ 101 ∷ 99 ∷ 111 ∷ 110 ∷ 99 ∷ 105 ∷ 108 ∷ 101 ∷ []
program_name Query = 113 ∷ 117 ∷ 101 ∷ 114 ∷ 121 ∷ []

-- of what --help prints
abbrev pub help_length : Program → ℕ
help_length Terms = 910
help_length Compose = 966
help_length Decompose = 422
help_length Gateway = 527
help_length Confirm = 795
help_length Deliver = 805
help_length Reconcile = 828
help_length Query = 975

-- of what --version prints
abbrev pub version_length : Program → ℕ
version_length Terms = 25
version_length Compose = 27
version_length Decompose = 29
version_length Gateway = 27
version_length Confirm = 27
version_length Deliver = 27
version_length Reconcile = 29
version_length Query = 25
