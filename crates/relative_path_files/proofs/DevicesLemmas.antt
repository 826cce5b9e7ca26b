-- A name that doesn't begin with the letter of a device names none.
use Rattle.std.proofs.Common.{◌≡◌, ℕ, zero, suc, Bool, true, false, not, nat_eq, if◌then◌else◌, ◌&&◌, ◌||◌, ◌==◌, List, [], ◌∷◌, drop, take, length, refl, sym, ap, ◌∙◌, arith}
use Rattle.std.proofs.lemmas.Bool.{or_from}
use Rattle.std.proofs.lemmas.Bool.Decides.{nat_tests}
use Rattle.std.specs.Char.{to_ascii_lowercase, encode_utf8}
use Rattle.std.specs.List.{list_any, list_all, before_first, prefix_len}
use Rattle.std.specs.Str.{bytes_eq, str_eq_ignore_ascii_case, str_to_ascii_lowercase}
use Rattle.relative_path.specs.Naming.{is_dot}
use Rattle.relative_path_files.specs.Win32.{is_space}
use Rattle.relative_path_files.specs.Names.{devices, serial_ports, parallel_ports, is_one_of, is_device, names_device}
use Rattle.relative_path_files.specs.NameTests.{is_device_letter, begins_as_device}

-- the text begins with another byte than this one, in lower case
abbrev BeginsApart : ℕ → List ℕ → Type 0
BeginsApart y [] = ⊥
BeginsApart y (c ∷ cs) = nat_eq (to_ascii_lowercase c) y ≡ false

-- each text does
abbrev BeginApart : ℕ → List (List ℕ) → Type 0
BeginApart y [] = Unit {0}
BeginApart y (text ∷ texts) = BeginsApart y text × BeginApart y texts

apart-differs : (one : List ℕ) (b : ℕ) (bs : List ℕ) → BeginsApart (to_ascii_lowercase b) one
    → str_eq_ignore_ascii_case one (b ∷ bs) ≡ false
apart-differs [] b bs apart = absurd apart
apart-differs (c ∷ cs) b bs apart =
    ap (λ t. t && bytes_eq (str_to_ascii_lowercase cs) (str_to_ascii_lowercase bs)) apart

apart-none : (names : List (List ℕ)) (b : ℕ) (bs : List ℕ) → BeginApart (to_ascii_lowercase b) names
    → is_one_of names (b ∷ bs) ≡ false
apart-none [] b bs apart = refl
apart-none (one ∷ names) b bs (here, rest) =
    or_from (str_eq_ignore_ascii_case one (b ∷ bs)) (is_one_of names (b ∷ bs)) (apart-differs one b bs here)
    (apart-none names b bs rest)

devices-apart : (y : ℕ) → is_device_letter y ≡ false → BeginApart y devices
devices-apart y other = grind (arith, nat_tests)

serial_ports-apart : (y : ℕ) → is_device_letter y ≡ false → BeginApart y serial_ports
unfolding encode_utf8
serial_ports-apart y other = grind (arith, nat_tests)

parallel_ports-apart : (y : ℕ) → is_device_letter y ≡ false → BeginApart y parallel_ports
unfolding encode_utf8
parallel_ports-apart y other = grind (arith, nat_tests)

is_device-other : (text : List ℕ) → begins_as_device text ≡ false → is_device text ≡ false
unfolding encode_utf8
is_device-other [] other = refl
is_device-other (b ∷ bs) other =
    let y = to_ascii_lowercase b in
    or_from (is_one_of devices (b ∷ bs) || is_one_of serial_ports (b ∷ bs)) (is_one_of parallel_ports (b ∷ bs))
    (or_from (is_one_of devices (b ∷ bs)) (is_one_of serial_ports (b ∷ bs))
    (apart-none devices b bs (devices-apart y other)) (apart-none serial_ports b bs (serial_ports-apart y other)))
    (apart-none parallel_ports b bs (parallel_ports-apart y other))

-- the front of a text begins as the text, or is empty
take-other : (n : ℕ) (text : List ℕ) → begins_as_device text ≡ false → begins_as_device (take n text) ≡ false
take-other zero text other = refl
take-other (suc n) [] other = refl
take-other (suc n) (b ∷ bs) other = other

before_first-other : (p : ℕ → Bool) (text : List ℕ) → begins_as_device text ≡ false
    → begins_as_device (before_first p text) ≡ false
before_first-other p text other = take-other (prefix_len (λ b. not (p b)) text) text other

pub names_device-other : (text : List ℕ) → begins_as_device text ≡ false → names_device text ≡ false
names_device-other text other =
    let stem = before_first is_dot text in
    let word = before_first is_space stem in
    ap (λ t. t && list_all is_space (drop (length word) stem))
    (is_device-other word (before_first-other is_space stem (before_first-other is_dot text other)))
