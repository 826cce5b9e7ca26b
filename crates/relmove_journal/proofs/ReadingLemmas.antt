-- Lemmas on how a journal's text reads back.
use Rattle.std.proofs.Common.{◌≡◌, ◌≢◌, ℕ, ◌<◌, ◌==◌, Bool, true, false, ◌||◌, if◌then◌else◌, nat_lt, Result, Ok, Err, IfOk, List, [], ◌∷◌, All, codes, length, get_or, refl, sym, ap, subst, ◌∙◌, arith, lit<, append-nil, true≢false}
use Rattle.std.proofs.lemmas.Bool.{and_parts}
use Rattle.std.proofs.lemmas.Bool.Decides.{nat_tests}
use Rattle.std.proofs.lemmas.List.Elements.{All-append, All-cons, All-from_get_or, All-get_or, All-nil}
use Rattle.std.proofs.lemmas.Slice.Eq.{bytes_eq-Decides}
use Rattle.std.proofs.lemmas.Str.{inside_one}
use Rattle.std.specs.List.{flat_map, list_all}
use Rattle.std.specs.Str.{bytes_eq, chars}
use lib.Utf8.{encode}
use Rattle.relmove_journal.specs.declared.error.JournalError.{JournalError}
use Rattle.relmove_journal.specs.declared.work.Stage.{Stage}
use Rattle.relmove_journal.specs.Journals.{escaped, escaped_character, field_bytes}
use Rattle.relmove_journal.specs.Reading.LeftoverParts.{Emptied, Removed}
use Rattle.relmove_journal.specs.Reading.Line.{OfOrigin, AtStage, End, OfWork}
use Rattle.relmove_journal.specs.Reading.OriginNumber.{File, Owner, Root, Run, Time}
use Rattle.relmove_journal.specs.Reading.WorkLine.{Cleaned, Made, NewText, Placed, Staged}
use Rattle.relmove_journal.specs.Reading.{GivenMemory, Line, OriginNumber, WorkLine, fields_text, line_fields, line_text, line_word, origin_word, work_word}

-- ---- where a line and its fields end

-- no byte of the text is this one
abbrev Lacks : ℕ → List ℕ → Type 0
Lacks b text = All (λ c. c ≢ b) text

-- the same, as `split_after` asks for it
pub Lacks-get_or : (b : ℕ) (text : List ℕ) → Lacks b text → (i : ℕ) → i < length text → get_or text i 0 ≢ b
Lacks-get_or b text none i inside = All-get_or (λ c. c ≢ b) text i 0 inside none

-- no byte of a character is another character of ASCII
encode-lacks : (b c : ℕ) → b < 128 → c ≢ b → Lacks b (encode c)
encode-lacks b c small other =
    All-from_get_or (λ d. d ≢ b) (encode c) 0 (λ k inside same. other (inside_one c [] (encode c) k
    (sym (append-nil (encode c))) inside (subst (λ d. d < 128) (sym same) small) ∙ same))

pair-lacks : (b c : ℕ) → b < 11 → 10 < c → Lacks b (92 ∷ c ∷ [])
pair-lacks b c small large =
    All-cons (λ d. d ≢ b) 92 (c ∷ []) (λ same. omega (arith, same))
    (All-cons (λ d. d ≢ b) c [] (λ same. omega (arith, same)) (All-nil (λ d. d ≢ b)))

-- tabs and line feeds are escaped
escaped_character-lacks : (b c : ℕ) → 8 < b → b < 11 → Lacks b (escaped_character c)
escaped_character-lacks b c low high = go (c == 92) (c == 9) (c == 10) refl refl refl
  where
    go : (backslash tab feed : Bool) → (c == 92) ≡ backslash → (c == 9) ≡ tab → (c == 10) ≡ feed
        → Lacks b (if backslash then codes "\\\\" else if tab then codes "\\t" else if feed then codes "\\n" else encode c)
    go true tab feed one two three = pair-lacks b 92 high (lit< tt)
    go false true feed one two three = pair-lacks b 116 high (lit< tt)
    go false false true one two three = pair-lacks b 110 high (lit< tt)
    go false false false one two three = encode-lacks b c (omega arith) (λ same. grind (arith, nat_tests))

flat_map-lacks : (b : ℕ) → 8 < b → b < 11 → (cs : List ℕ) → Lacks b (flat_map escaped_character cs)
flat_map-lacks b low high [] = All-nil (λ d. d ≢ b)
flat_map-lacks b low high (c ∷ cs) =
    All-append (λ d. d ≢ b) (escaped_character c) (flat_map escaped_character cs) (escaped_character-lacks b c low high)
    (flat_map-lacks b low high cs)

pub escaped-lacks : (b : ℕ) → 8 < b → b < 11 → (text : List ℕ) → Lacks b (escaped text)
escaped-lacks b low high text = flat_map-lacks b low high (chars text)

-- a line has no line feed in it
field_bytes-lack : (fields : List (List ℕ)) → Lacks 10 (flat_map field_bytes fields)
field_bytes-lack [] = All-nil (λ d. d ≢ 10)
field_bytes-lack (field ∷ fields) =
    All-append (λ d. d ≢ 10) (field_bytes field) (flat_map field_bytes fields)
    (All-cons (λ d. d ≢ 10) 9 (escaped field) (λ same. omega (arith, same)) (escaped-lacks 10 (lit< tt) (lit< tt) field))
    (field_bytes-lack fields)

fields_text-lacks : (fields : List (List ℕ)) → Lacks 10 (fields_text fields)
fields_text-lacks [] = All-nil (λ d. d ≢ 10)
fields_text-lacks (field ∷ fields) =
    All-append (λ d. d ≢ 10) (escaped field) (flat_map field_bytes fields) (escaped-lacks 10 (lit< tt) (lit< tt) field)
    (field_bytes-lack fields)

above-other : (b c : ℕ) → b < 11 → nat_lt 10 c ≡ true → c ≢ b
above-other b c small above same = grind (arith, nat_tests)

-- a text whose bytes are all above a line feed
pub Lacks-above : (b : ℕ) → b < 11 → (text : List ℕ) → list_all (λ c. nat_lt 10 c) text ≡ true → Lacks b text
Lacks-above b small [] all = All-nil (λ d. d ≢ b)
Lacks-above b small (c ∷ cs) all =
    let (one, others) = and_parts _ _ all in
    All-cons (λ d. d ≢ b) c cs (above-other b c small one) (Lacks-above b small cs others)

work_word-above : (line : WorkLine) → list_all (λ c. nat_lt 10 c) (work_word line) ≡ true
work_word-above (NewText text) = refl
work_word-above (Staged rename) = refl
work_word-above (Made path) = refl
work_word-above (Placed rename) = refl
work_word-above (Cleaned (Removed text)) = refl
work_word-above (Cleaned (Emptied path)) = refl

origin_word-above : (which : OriginNumber) → list_all (λ c. nat_lt 10 c) (origin_word which) ≡ true
origin_word-above Root = refl
origin_word-above File = refl
origin_word-above Run = refl
origin_word-above Owner = refl
origin_word-above Time = refl

line_word-above : (line : Line) → list_all (λ c. nat_lt 10 c) (line_word line) ≡ true
line_word-above (OfOrigin which number) = origin_word-above which
line_word-above (AtStage stage) = refl
line_word-above (OfWork line) = work_word-above line
line_word-above (End size sha256) = refl

-- no tab stands in the word of a line
pub line_word-lacks : (line : Line) → Lacks 9 (line_word line)
line_word-lacks line = Lacks-above 9 (lit< tt) (line_word line) (line_word-above line)

-- and no line feed in the line
pub line_text-lacks : (line : Line) → Lacks 10 (line_text line)
line_text-lacks line =
    All-append (λ d. d ≢ 10) (line_word line) (9 ∷ fields_text (line_fields line))
    (Lacks-above 10 (lit< tt) (line_word line) (line_word-above line))
    (All-cons (λ d. d ≢ 10) 9 (fields_text (line_fields line)) (λ same. omega (arith, same)) (fields_text-lacks (line_fields line)))

-- ---- which line begins with a word

differ : (one other : List ℕ) → bytes_eq one other ≡ false → one ≢ other
differ one other no_equal same = true≢false (sym ((bytes_eq-Decides one other).1 same) ∙ no_equal)

abbrev is_word_of_head : List ℕ → Bool
is_word_of_head word = bytes_eq word (codes "root") || bytes_eq word (codes "file") || bytes_eq word (codes "run")
    || bytes_eq word (codes "owner") || bytes_eq word (codes "time") || bytes_eq word (codes "stage")

work_word-head : (line : WorkLine) → is_word_of_head (work_word line) ≡ false
work_word-head (NewText text) = refl
work_word-head (Staged rename) = refl
work_word-head (Made path) = refl
work_word-head (Placed rename) = refl
work_word-head (Cleaned (Removed text)) = refl
work_word-head (Cleaned (Emptied path)) = refl

origin_word-head : (which : OriginNumber) → is_word_of_head (origin_word which) ≡ true
origin_word-head Root = refl
origin_word-head File = refl
origin_word-head Run = refl
origin_word-head Owner = refl
origin_word-head Time = refl

-- no two numbers of an origin have one word
same_number : (one other : OriginNumber) → origin_word other ≡ origin_word one → other ≡ one
same_number Root Root is = refl
same_number Root File is = absurd (differ (codes "file") (codes "root") refl is)
same_number Root Run is = absurd (differ (codes "run") (codes "root") refl is)
same_number Root Owner is = absurd (differ (codes "owner") (codes "root") refl is)
same_number Root Time is = absurd (differ (codes "time") (codes "root") refl is)
same_number File Root is = absurd (differ (codes "root") (codes "file") refl is)
same_number File File is = refl
same_number File Run is = absurd (differ (codes "run") (codes "file") refl is)
same_number File Owner is = absurd (differ (codes "owner") (codes "file") refl is)
same_number File Time is = absurd (differ (codes "time") (codes "file") refl is)
same_number Run Root is = absurd (differ (codes "root") (codes "run") refl is)
same_number Run File is = absurd (differ (codes "file") (codes "run") refl is)
same_number Run Run is = refl
same_number Run Owner is = absurd (differ (codes "owner") (codes "run") refl is)
same_number Run Time is = absurd (differ (codes "time") (codes "run") refl is)
same_number Owner Root is = absurd (differ (codes "root") (codes "owner") refl is)
same_number Owner File is = absurd (differ (codes "file") (codes "owner") refl is)
same_number Owner Run is = absurd (differ (codes "run") (codes "owner") refl is)
same_number Owner Owner is = refl
same_number Owner Time is = absurd (differ (codes "time") (codes "owner") refl is)
same_number Time Root is = absurd (differ (codes "root") (codes "time") refl is)
same_number Time File is = absurd (differ (codes "file") (codes "time") refl is)
same_number Time Run is = absurd (differ (codes "run") (codes "time") refl is)
same_number Time Owner is = absurd (differ (codes "owner") (codes "time") refl is)
same_number Time Time is = refl

origin_word-stage : (which : OriginNumber) → bytes_eq (codes "stage") (origin_word which) ≡ false
origin_word-stage Root = refl
origin_word-stage File = refl
origin_word-stage Run = refl
origin_word-stage Owner = refl
origin_word-stage Time = refl

origin_word-end : (which : OriginNumber) → bytes_eq (codes "end") (origin_word which) ≡ false
origin_word-end Root = refl
origin_word-end File = refl
origin_word-end Run = refl
origin_word-end Owner = refl
origin_word-end Time = refl

module _ (P : Line → Type 0) where
  -- only the line of this number of the origin begins so
  pub at_origin : (which : OriginNumber) → ((number : ℕ) → P (OfOrigin which number)) → (line : Line)
      → line_word line ≡ origin_word which → P line
  at_origin which at (OfOrigin other number) is = subst (λ p. P (OfOrigin p number)) (sym (same_number which other is)) (at number)
  at_origin which at (AtStage stage) is = absurd (differ (codes "stage") (origin_word which) (origin_word-stage which) is)
  at_origin which at (OfWork line) is =
      absurd (true≢false (sym (ap is_word_of_head is ∙ origin_word-head which) ∙ work_word-head line))
  at_origin which at (End size sha256) is = absurd (differ (codes "end") (origin_word which) (origin_word-end which) is)

  -- only that of the stage
  pub at_stage : ((stage : Stage) → P (AtStage stage)) → (line : Line) → line_word line ≡ codes "stage" → P line
  at_stage at (OfOrigin which number) is = absurd (differ (codes "stage") (origin_word which) (origin_word-stage which) (sym is))
  at_stage at (AtStage stage) is = at stage
  at_stage at (OfWork line) is = absurd (true≢false (sym (ap is_word_of_head is) ∙ work_word-head line))
  at_stage at (End size sha256) is = absurd (differ (codes "end") (codes "stage") refl is)

-- ---- what calls return

-- what follows of a value, if there is memory for it
pub GivenMemory-map : {T : Type 0} (r : Result T JournalError) (P Q : T → Type 0) → ((x : T) → P x → Q x) → GivenMemory r P
    → GivenMemory r Q
GivenMemory-map (Ok x) P Q more is = more x is
GivenMemory-map (Err error) P Q more is = is

pub IfOk-map : {T E : Type 0} (r : Result T E) (P Q : T → Type 0) → ((x : T) → P x → Q x) → IfOk r P → IfOk r Q
IfOk-map (Ok x) P Q more is = more x is
IfOk-map (Err error) P Q more is = tt
