-- Texts read one piece after another.
use Rattle.std.proofs.Common.{◌≡◌, ℕ, zero, suc, ◌-◌, ◌+◌, ◌<◌, ◌≤◌, List, [], ◌∷◌, length, take, drop, get_or, Result, Ok, Err, refl, sym, ap, ◌∙◌, arith, append_assoc, length-drop}
use Rattle.std.proofs.lemmas.List.{take_all, drop-drop}
use Rattle.target_paths.specs.declared.target.WhyUnknown.{WhyUnknown}
use Rattle.target_paths.specs.Pieces.{Piece, read_pieces, append_read, bytes_of_pieces, total_size}

pub read_pieces-skip : (first : ℕ → List ℕ → Piece) (k : ℕ) (bs : List ℕ)
    → read_pieces first k bs ≡ read_pieces first 0 (drop k bs)
read_pieces-skip first zero bs = refl
read_pieces-skip first (suc k) [] = refl
read_pieces-skip first (suc k) (b ∷ bs) = read_pieces-skip first k bs

drop-pred : (n b : ℕ) (bs : List ℕ) → 0 < n → drop (n - 1) bs ≡ drop n (b ∷ bs)
drop-pred zero b bs some = absurd (omega (arith, some))
drop-pred (suc n) b bs some = let e : suc n - 1 ≡ n = omega arith in ap (λ k. drop k bs) e

-- the slice of a text from a byte on
abbrev pub from_byte : ℕ → List ℕ → List ℕ
from_byte k text = take (length text - k) (drop k text)

pub from_byte-drop : (k : ℕ) (text : List ℕ) → from_byte k text ≡ drop k text
from_byte-drop k text = take_all (length text - k) (drop k text) (omega (arith, length-drop k text))

-- a text by its first piece
pub read_pieces-left : (first : ℕ → List ℕ → Piece) (left : List ℕ) (piece : Piece) → 1 ≤ length left
    → piece ≡ first (get_or left 0 0) (from_byte 1 left) → 0 < piece.size
    → read_pieces first 0 left ≡ piece ∷ read_pieces first 0 (from_byte piece.size left)
read_pieces-left first [] piece some is size = absurd (omega (arith, some))
read_pieces-left first (b ∷ bs) piece some is size =
    ap (λ p. p ∷ read_pieces first (p.size - 1) bs) (ap (first b) (sym (from_byte-drop 1 (b ∷ bs))) ∙ sym is)
    ∙ ap (λ ps. piece ∷ ps)
    (read_pieces-skip first (piece.size - 1) bs
    ∙ ap (read_pieces first 0) (drop-pred piece.size b bs size ∙ sym (from_byte-drop piece.size (b ∷ bs))))

pub append_read-assoc : (x y z : Result (List ℕ) WhyUnknown) → append_read (append_read x y) z ≡ append_read x (append_read y z)
append_read-assoc (Err why) y z = refl
append_read-assoc (Ok x) (Err why) z = refl
append_read-assoc (Ok x) (Ok y) (Err why) = refl
append_read-assoc (Ok x) (Ok y) (Ok z) = ap Ok (append_assoc x y z)

pub append_read-nil : (x : Result (List ℕ) WhyUnknown) → append_read (Ok []) x ≡ x
append_read-nil (Err why) = refl
append_read-nil (Ok x) = refl

-- after one more piece is read, the rest of the pieces follow
pub bytes_of_pieces-next : (old new : List ℕ) (piece : Piece) (whole rest : List Piece) → whole ≡ piece ∷ rest
    → append_read (Ok old) piece.read ≡ Ok new
    → append_read (Ok new) (bytes_of_pieces rest) ≡ append_read (Ok old) (bytes_of_pieces whole)
bytes_of_pieces-next old new piece whole rest is read =
    ap (λ r. append_read r (bytes_of_pieces rest)) (sym read)
    ∙ append_read-assoc (Ok old) piece.read (bytes_of_pieces rest)
    ∙ ap (λ ps. append_read (Ok old) (bytes_of_pieces ps)) (sym is)

pub length-from_byte : (k : ℕ) (text : List ℕ) → length (from_byte k text) ≡ length text - k
length-from_byte k text = ap length (from_byte-drop k text) ∙ length-drop k text

-- the text after a piece isn't longer than the whole text
pub within-next : (left : List ℕ) (size long : ℕ) → length left ≤ long → length (from_byte size left) ≤ long
within-next left size long within = let count = length-from_byte size left in omega arith

-- a text has the bytes read so far, the bytes of a piece and the bytes of the rest
pub size-next : (left : List ℕ) (piece : Piece) (whole rest : List Piece) (long total : ℕ)
    → whole ≡ piece ∷ rest → piece.size ≤ length (from_byte 1 left) + 1 → 1 ≤ length left → length left ≤ long
    → (long - length left) + total_size whole ≡ total
    → (long - length (from_byte piece.size left)) + total_size rest ≡ total
size-next left piece whole rest long total is fits some within so_far =
    let one = length-from_byte 1 left in
    let count = length-from_byte piece.size left in
    let sizes : total_size whole ≡ piece.size + total_size rest = ap total_size is in
    omega arith

-- the text after a piece begins at the end of the piece
pub left-next : (left target : List ℕ) (size : ℕ) → left ≡ drop (length target - length left) target
    → size ≤ length (from_byte 1 left) + 1 → 1 ≤ length left → length left ≤ length target
    → from_byte size left ≡ drop (length target - length (from_byte size left)) target
left-next left target size is fits some within =
    let k : ℕ = length target - length left in
    let one = length-from_byte 1 left in
    let count = length-from_byte size left in
    let at : k + size ≡ length target - length (from_byte size left) = omega arith in
    from_byte-drop size left
    ∙ ap (drop size) is
    ∙ drop-drop size k target
    ∙ ap (λ n. drop n target) at
