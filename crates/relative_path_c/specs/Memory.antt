-- What a call leaves with its caller: a part of the caller's text, or a text in the caller's memory.
use Rattle.std.specs.Prelude.{◌≡◌, ◌<◌, ℕ, List, length, take, drop}
use Rattle.std.specs.Str.{IsUtf8}
use Rattle.relative_path_c.specs.Status.{done, no_room}

-- if the call is done, the part is UTF-8 and has the property
abbrev pub HandsOut : (status : ℕ) → (part : List ℕ) → (List ℕ → Type 0) → Type 0
HandsOut status part P = status ≡ done → IsUtf8 part × P part

-- if the call is done, the first len bytes of the memory are UTF-8 and have the property
abbrev pub Writes : (status len : ℕ) → (memory : List ℕ) → (List ℕ → Type 0) → Type 0
Writes status len memory P = status ≡ done → IsUtf8 (take len memory) × P (take len memory)

-- if the call is done, the bytes of the memory after the first len are as they were
abbrev pub KeepsRest : (status len : ℕ) → (old new : List ℕ) → Type 0
KeepsRest status len old new = status ≡ done → drop len new ≡ drop len old

-- if the memory is too short, the text with the property has len bytes, which are more than the memory has
abbrev pub Needs : (status len : ℕ) → (memory : List ℕ) → (List ℕ → Type 0) → Type 0
Needs status len memory P =
    status ≡ no_room → (length memory < len) × ((text : List ℕ) × P text × (length text ≡ len))
