-- A text that is cut at its slashes: where the piece after the last slash begins.
use Rattle.std.specs.Prelude.{ℕ, ◌-◌, Bool, not, List, length}
use Rattle.std.specs.List.{suffix_len}

-- where the bytes after the last byte that passes begin: 0 if no byte passes
abbrev pub last_start : (ℕ → Bool) → List ℕ → ℕ
last_start p bytes = length bytes - suffix_len (λ b. not (p b)) bytes
