-- Names that every platform reads alike.
use Rattle.std.specs.Prelude.{◌≡◌, ℕ, ◌+◌, ◌-◌, Bool, ◌==◌, ◌&&◌, ◌||◌, nat_lt, nat_le, false, List, [], ◌∷◌, length, drop, codes, encode_utf8_all, get_or, Option, Some, None, if◌then◌else◌, ⊤}
use Rattle.std.specs.Char.{is_ascii_digit}
use Rattle.std.specs.List.{list_any, list_all, before_first, suffix_len}
use Rattle.std.specs.Str.{byte, str_eq_ignore_ascii_case}
use Rattle.relative_path.specs.Steps.{Step, cur, up, name, components}
use Rattle.relative_path.specs.Naming.{is_dot}
use Rattle.relative_path_files.specs.Win32.{is_space, win32_names}

-- the byte is a NUL
abbrev pub is_nul : ℕ → Bool
is_nul b = b == 0

-- the components that Unix reads: the text cut at its slashes; none if the text has a NUL
abbrev pub unix_names : List ℕ → Option (List Step)
unix_names text = if list_any is_nul text then None else Some (components text)

-- the byte is 127, a control byte that Windows allows
abbrev pub is_delete : ℕ → Bool
is_delete b = b == 127

-- a list: the devices of Windows without a number
abbrev pub devices : List (List ℕ)
devices = codes "CON" ∷ codes "PRN" ∷ codes "AUX" ∷ codes "NUL" ∷ codes "CONIN$" ∷ codes "CONOUT$" ∷ []

-- a list: its serial ports, in UTF-8
abbrev pub serial_ports : List (List ℕ)
serial_ports =
    codes "COM0" ∷ codes "COM1" ∷ codes "COM2" ∷ codes "COM3" ∷ codes "COM4"
    ∷ codes "COM5" ∷ codes "COM6" ∷ codes "COM7" ∷ codes "COM8" ∷ codes "COM9"
    ∷ encode_utf8_all (codes "COM¹") ∷ encode_utf8_all (codes "COM²") ∷ encode_utf8_all (codes "COM³") ∷ []

-- a list: its parallel ports, in UTF-8
abbrev pub parallel_ports : List (List ℕ)
parallel_ports =
    codes "LPT0" ∷ codes "LPT1" ∷ codes "LPT2" ∷ codes "LPT3" ∷ codes "LPT4"
    ∷ codes "LPT5" ∷ codes "LPT6" ∷ codes "LPT7" ∷ codes "LPT8" ∷ codes "LPT9"
    ∷ encode_utf8_all (codes "LPT¹") ∷ encode_utf8_all (codes "LPT²") ∷ encode_utf8_all (codes "LPT³") ∷ []

-- the text is one of the names, in any case
abbrev pub is_one_of : List (List ℕ) → List ℕ → Bool
is_one_of names text = list_any (λ one. str_eq_ignore_ascii_case one text) names

-- the text is the name of a device or a port of Windows, in any case
abbrev pub is_device : List ℕ → Bool
is_device text = is_one_of devices text || is_one_of serial_ports text || is_one_of parallel_ports text

-- the name is that of a device, alone or before a dot, perhaps with spaces between
abbrev pub names_device : List ℕ → Bool
names_device text =
    let stem = before_first is_dot text in
    let word = before_first is_space stem in
    is_device word && list_all is_space (drop (length word) stem)

-- a list: the name below which Apple's systems keep the forks of a file
abbrev pub forks : List (List ℕ)
forks = codes "..namedfork" ∷ []

-- Win32 and Unix both read the text as this one name, it has no byte 127, and no list has it
pub record IsPlainName (text : List ℕ) : Type 0 where
  pub windows : win32_names text ≡ Some (text ∷ [])
  pub unix : unix_names text ≡ Some (name text ∷ [])
  pub no_delete : list_any is_delete text ≡ false
  pub no_device : names_device text ≡ false
  pub no_fork : is_one_of forks text ≡ false

-- P holds of the component's text, if the component is a name
abbrev pub IfName : (List ℕ → Type 0) → Step → Type 0
IfName P cur = ⊤
IfName P up = ⊤
IfName P (name text) = P text

-- the byte is `~`
abbrev pub is_tilde : ℕ → Bool
is_tilde b = b == byte "~"

-- the text ends in at least one digit, and the byte before the digits at its end is `~`
abbrev pub ends_in_number : List ℕ → Bool
ends_in_number text =
    let front = length text - suffix_len is_ascii_digit text in
    nat_lt front (length text) && nat_lt 0 front && is_tilde (get_or text (front - 1) 0)

-- at most eight bytes come before the first dot, the last of them `~` and digits, and at most three bytes come after it
abbrev pub is_like_short_name : List ℕ → Bool
is_like_short_name text =
    let stem = before_first is_dot text in
    ends_in_number stem && nat_le (length stem) 8 && nat_le (length text) (length stem + 4)
