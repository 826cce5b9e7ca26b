-- Lemmas on the lines of a journal: what they all say.
use Rattle.std.proofs.Common.{◌≡◌, ℕ, Option, Some, None, Bor, List, [], ◌∷◌, ◌++◌, All, codes, get_or, length, map, refl, sym, ap, ap₂, ◌∙◌, arith, lit<, append-nil, append_assoc, string_bytes, MatchOption}
use Rattle.std.proofs.lemmas.List.Concat.{flat_map-append}
use Rattle.std.proofs.lemmas.List.Elements.{All-append, All-cons, All-head, All-map, All-nil, All-tail, All-weaker}
use Rattle.std.proofs.lemmas.List.{length-append, map-append}
use Rattle.std.proofs.lemmas.Str.{IsUtf8-string_bytes}
use Rattle.std.proofs.lemmas.Str.Pattern.{IsSplitOnceResult, split_after, split_parts}
use Rattle.std.specs.List.{flat_map, fold}
use Rattle.std.specs.Fmt.{decimal}
use Rattle.hex.specs.Hex.{encode_lower}
use Rattle.sha2.specs.Sha256.{sha256}
use Rattle.relmove_actions.specs.declared.actions.Rename.{Rename}
use Rattle.relmove_journal.specs.declared.journal.Journal.{Journal}
use Rattle.relmove_journal.specs.declared.journal.Origin.{Origin}
use Rattle.relmove_journal.specs.declared.text_digest.TextDigest.{TextDigest}
use Rattle.relmove_journal.specs.declared.work.Leftover.{Leftover}
use Rattle.relmove_journal.specs.declared.work.Leftover.TheVariants.{Text, Directory}
use Rattle.relmove_journal.specs.declared.work.Stage.{Stage}
use Rattle.relmove_journal.specs.declared.work.Work.{Work}
use Rattle.relmove_journal.specs.Journals.{directory_line, end_line, head_lines, journal_bytes, leftover_line, rename_line, text_line, work_bytes}
use Rattle.relmove_journal.specs.Reading.Line.{OfOrigin, AtStage, End, OfWork}
use Rattle.relmove_journal.specs.Reading.OriginNumber.{File, Owner, Root, Run, Time}
use Rattle.relmove_journal.specs.Reading.WorkLine.{Cleaned, Made, NewText, Placed, Staged}
use Rattle.relmove_journal.specs.Reading.{Content, HasDigest, FitsTypes, IsDigest, IsLine, IsRenameParts, LeftoverParts, Line, Says, WorkLine, WorkParts, leftover_parts, line_text, no_work, parts_of, rename_parts, text_parts, with_line, with_work_line}
use Rattle.relmove_journal.proofs.ReadingLemmas.{Lacks-get_or, line_text-lacks}

-- a line with its line feed
abbrev ended : Line → List ℕ
ended line = line_text line ++ 10 ∷ []

-- ---- the lines of a journal

abbrev work_lines : WorkParts → List WorkLine
work_lines work =
    map NewText work.texts ++ (map Staged work.staged ++ (map Made work.made ++ (map Placed work.placed ++ map Cleaned work.cleaned)))

abbrev lines : Origin → Stage → WorkParts → List ℕ → List ℕ → List Line
lines origin stage work size digest =
    OfOrigin Root origin.root ∷ OfOrigin File origin.file ∷ OfOrigin Run origin.run ∷ OfOrigin Owner origin.owner
    ∷ OfOrigin Time origin.time ∷ AtStage stage ∷ (map OfWork (work_lines work) ++ End size digest ∷ [])

-- what is written of the things in a list
list-written : {X P : Type 0} (bytes : X → List ℕ) (line : P → WorkLine) (parts : X → P)
    → ((x : X) → bytes x ≡ ended (OfWork (line (parts x)))) → (xs : List X)
    → flat_map bytes xs ≡ flat_map ended (map OfWork (map line (map parts xs)))
list-written bytes line parts each [] = refl
list-written bytes line parts each (x ∷ xs) = ap₂ ◌++◌ (each x) (list-written bytes line parts each xs)

leftover-written : (leftover : Leftover) → leftover_line leftover ≡ ended (OfWork (Cleaned (leftover_parts leftover)))
leftover-written (Text file) = refl
leftover-written (Directory path) = refl

two-written : (one other : List WorkLine)
    → flat_map ended (map OfWork (one ++ other)) ≡ flat_map ended (map OfWork one) ++ flat_map ended (map OfWork other)
two-written one other =
    ap (flat_map ended) (map-append OfWork one other) ∙ flat_map-append ended (map OfWork one) (map OfWork other)

-- what is written of work are its lines
pub work_bytes-lines : (work : Work) → work_bytes work ≡ flat_map ended (map OfWork (work_lines (parts_of work)))
work_bytes-lines work =
    let texts = list-written (text_line (codes "text")) NewText text_parts (λ x. refl) work.texts.items in
    let staged = list-written (rename_line (codes "staged")) Staged rename_parts (λ x. refl) work.staged.items in
    let made =
    list-written (λ path. directory_line (codes "made") (string_bytes path)) Made string_bytes (λ x. refl) work.made.items in
    let placed = list-written (rename_line (codes "placed")) Placed rename_parts (λ x. refl) work.placed.items in
    let cleaned = list-written leftover_line Cleaned leftover_parts leftover-written work.cleaned.items in
    let parts = parts_of work in
    let t = map NewText parts.texts in
    let s = map Staged parts.staged in
    let m = map Made parts.made in
    let p = map Placed parts.placed in
    let c = map Cleaned parts.cleaned in
    let b = λ (ls : List WorkLine). flat_map ended (map OfWork ls) in
    ap₂ ◌++◌ (ap₂ ◌++◌ (ap₂ ◌++◌ (ap₂ ◌++◌ texts staged) made) placed) cleaned
    ∙ append_assoc (b t ++ b s ++ b m) (b p) (b c)
    ∙ append_assoc (b t ++ b s) (b m) (b p ++ b c)
    ∙ append_assoc (b t) (b s) (b m ++ (b p ++ b c))
    ∙ sym (two-written t (s ++ (m ++ (p ++ c)))
    ∙ ap (λ l. b t ++ l) (two-written s (m ++ (p ++ c))
    ∙ ap (λ l. b s ++ l) (two-written m (p ++ c) ∙ ap (λ l. b m ++ l) (two-written p c))))

-- what is written of a journal depends on the journal's parts alone
journal_bytes-parts : (origin : Origin) (stage : Stage) (one other : Work) → parts_of one ≡ parts_of other
    → journal_bytes origin stage one ≡ journal_bytes origin stage other
journal_bytes-parts origin stage one other same =
    let work : work_bytes one ≡ work_bytes other =
    work_bytes-lines one ∙ ap (λ parts. flat_map ended (map OfWork (work_lines parts))) same ∙ sym (work_bytes-lines other) in
    ap (λ bytes. let written = codes "relmove journal 3\n" ++ head_lines origin stage ++ bytes in written ++ end_line written) work

-- a journal is written as the one that says the same
pub Says-written : (journal : Journal) (origin : Origin) (stage : Stage) (work : Work) → Says journal origin stage work
    → journal_bytes origin stage work ≡ journal_bytes journal.origin journal.stage journal.work
Says-written journal origin stage work says =
    ap₂ (λ o s. journal_bytes o s work) (sym says.same_origin) (sym says.same_stage)
    ∙ journal_bytes-parts journal.origin journal.stage work journal.work (sym says.same_work)

-- after its first line a journal has these lines
pub journal_bytes-lines : (origin : Origin) (stage : Stage) (work : Work)
    → (size digest : List ℕ) × (journal_bytes origin stage work
    ≡ codes "relmove journal 3" ++ 10 ∷ flat_map ended (lines origin stage (parts_of work) size digest))
journal_bytes-lines origin stage work =
    let first = codes "relmove journal 3\n" in
    let written = first ++ head_lines origin stage ++ work_bytes work in
    let size = decimal (length written) in
    let digest = encode_lower (sha256 written) in
    let bytes = flat_map ended (map OfWork (work_lines (parts_of work))) in
    let root = ended (OfOrigin Root origin.root) in
    let file = ended (OfOrigin File origin.file) in
    let run = ended (OfOrigin Run origin.run) in
    let owner = ended (OfOrigin Owner origin.owner) in
    let time = ended (OfOrigin Time origin.time) in
    let at = ended (AtStage stage) in
    let end = ended (End size digest) in (
      size,
      digest,
      append_assoc (first ++ head_lines origin stage) (work_bytes work) end
          ∙ append_assoc first (head_lines origin stage) (work_bytes work ++ end)
          ∙ ap (λ l. first ++ l) (append_assoc (root ++ file ++ run ++ owner ++ time) at (work_bytes work ++ end)
          ∙ append_assoc (root ++ file ++ run ++ owner) time (at ++ (work_bytes work ++ end))
          ∙ append_assoc (root ++ file ++ run) owner (time ++ (at ++ (work_bytes work ++ end)))
          ∙ append_assoc (root ++ file) run (owner ++ (time ++ (at ++ (work_bytes work ++ end))))
          ∙ append_assoc root file (run ++ (owner ++ (time ++ (at ++ (work_bytes work ++ end)))))
          ∙ ap (λ l. root ++ (file ++ (run ++ (owner ++ (time ++ (at ++ l))))))
          (ap₂ ◌++◌ (work_bytes-lines work) (sym (append-nil end))
          ∙ sym (flat_map-append ended (map OfWork (work_lines (parts_of work))) (End size digest ∷ [])))),
    )

-- ---- what they say

fold-append : {A B : Type 0} (f : B → A → B) (b : B) (xs ys : List A) → fold f b (xs ++ ys) ≡ fold f (fold f b xs) ys
fold-append f b [] ys = refl
fold-append f b (x ∷ xs) ys = fold-append f (f b x) xs ys

abbrev with_texts : WorkParts → List (List ℕ × TextDigest) → WorkParts
with_texts work more = record {
  texts = work.texts ++ more;
  staged = work.staged;
  made = work.made;
  placed = work.placed;
  cleaned = work.cleaned;
}

abbrev with_staged : WorkParts → List (List ℕ × List ℕ) → WorkParts
with_staged work more = record {
  texts = work.texts;
  staged = work.staged ++ more;
  made = work.made;
  placed = work.placed;
  cleaned = work.cleaned;
}

abbrev with_made : WorkParts → List (List ℕ) → WorkParts
with_made work more = record {
  texts = work.texts;
  staged = work.staged;
  made = work.made ++ more;
  placed = work.placed;
  cleaned = work.cleaned;
}

abbrev with_placed : WorkParts → List (List ℕ × List ℕ) → WorkParts
with_placed work more = record {
  texts = work.texts;
  staged = work.staged;
  made = work.made;
  placed = work.placed ++ more;
  cleaned = work.cleaned;
}

abbrev with_cleaned : WorkParts → List LeftoverParts → WorkParts
with_cleaned work more = record {
  texts = work.texts;
  staged = work.staged;
  made = work.made;
  placed = work.placed;
  cleaned = work.cleaned ++ more;
}

-- lines of one kind add a list
lines-add : {P : Type 0} (line : P → WorkLine) (add : WorkParts → List P → WorkParts)
    → ((work : WorkParts) → add work [] ≡ work)
    → ((work : WorkParts) (p : P) (ps : List P) → add (with_work_line work (line p)) ps ≡ add work (p ∷ ps))
    → (work : WorkParts) (ps : List P) → fold with_work_line work (map line ps) ≡ add work ps
lines-add line add none more work [] = sym (none work)
lines-add line add none more work (p ∷ ps) = lines-add line add none more (with_work_line work (line p)) ps ∙ more work p ps

texts-add : (w : WorkParts) (ps : List (List ℕ × TextDigest)) → fold with_work_line w (map NewText ps) ≡ with_texts w ps
texts-add =
    lines-add NewText with_texts
    (λ w. ap (λ l. record { texts = l; staged = w.staged; made = w.made; placed = w.placed; cleaned = w.cleaned }) (append-nil w.texts))
    (λ w p ps. ap (λ l. record { texts = l; staged = w.staged; made = w.made; placed = w.placed; cleaned = w.cleaned })
    (append_assoc w.texts (p ∷ []) ps))

staged-add : (w : WorkParts) (ps : List (List ℕ × List ℕ)) → fold with_work_line w (map Staged ps) ≡ with_staged w ps
staged-add =
    lines-add Staged with_staged
    (λ w. ap (λ l. record { texts = w.texts; staged = l; made = w.made; placed = w.placed; cleaned = w.cleaned }) (append-nil w.staged))
    (λ w p ps. ap (λ l. record { texts = w.texts; staged = l; made = w.made; placed = w.placed; cleaned = w.cleaned })
    (append_assoc w.staged (p ∷ []) ps))

made-add : (w : WorkParts) (ps : List (List ℕ)) → fold with_work_line w (map Made ps) ≡ with_made w ps
made-add =
    lines-add Made with_made
    (λ w. ap (λ l. record { texts = w.texts; staged = w.staged; made = l; placed = w.placed; cleaned = w.cleaned }) (append-nil w.made))
    (λ w p ps. ap (λ l. record { texts = w.texts; staged = w.staged; made = l; placed = w.placed; cleaned = w.cleaned })
    (append_assoc w.made (p ∷ []) ps))

placed-add : (w : WorkParts) (ps : List (List ℕ × List ℕ)) → fold with_work_line w (map Placed ps) ≡ with_placed w ps
placed-add =
    lines-add Placed with_placed
    (λ w. ap (λ l. record { texts = w.texts; staged = w.staged; made = w.made; placed = l; cleaned = w.cleaned }) (append-nil w.placed))
    (λ w p ps. ap (λ l. record { texts = w.texts; staged = w.staged; made = w.made; placed = l; cleaned = w.cleaned })
    (append_assoc w.placed (p ∷ []) ps))

cleaned-add : (w : WorkParts) (ps : List LeftoverParts) → fold with_work_line w (map Cleaned ps) ≡ with_cleaned w ps
cleaned-add =
    lines-add Cleaned with_cleaned
    (λ w. ap (λ l. record { texts = w.texts; staged = w.staged; made = w.made; placed = w.placed; cleaned = l }) (append-nil w.cleaned))
    (λ w p ps. ap (λ l. record { texts = w.texts; staged = w.staged; made = w.made; placed = w.placed; cleaned = l })
    (append_assoc w.cleaned (p ∷ []) ps))

-- the lines of work say it
work_lines-say : (w : WorkParts) → fold with_work_line no_work (work_lines w) ≡ w
work_lines-say w =
    let t = map NewText w.texts in
    let s = map Staged w.staged in
    let m = map Made w.made in
    let p = map Placed w.placed in
    let c = map Cleaned w.cleaned in
    let one = with_texts no_work w.texts in
    let two = with_staged one w.staged in
    let three = with_made two w.made in
    let four = with_placed three w.placed in
    fold-append with_work_line no_work t (s ++ (m ++ (p ++ c)))
    ∙ ap (λ x. fold with_work_line x (s ++ (m ++ (p ++ c)))) (texts-add no_work w.texts)
    ∙ fold-append with_work_line one s (m ++ (p ++ c))
    ∙ ap (λ x. fold with_work_line x (m ++ (p ++ c))) (staged-add one w.staged)
    ∙ fold-append with_work_line two m (p ++ c)
    ∙ ap (λ x. fold with_work_line x (p ++ c)) (made-add two w.made)
    ∙ fold-append with_work_line three p c
    ∙ ap (λ x. fold with_work_line x c) (placed-add three w.placed)
    ∙ cleaned-add four w.cleaned

of_work-say : (content : Content) (ls : List WorkLine)
    → fold with_line content (map OfWork ls)
    ≡ record { origin = content.origin; stage = content.stage; work = fold with_work_line content.work ls }
of_work-say content [] = refl
of_work-say content (l ∷ ls) = of_work-say (with_line content (OfWork l)) ls

-- the lines of a journal say it
pub lines-say : (content : Content) → content.work ≡ no_work → (origin : Origin) (stage : Stage) (w : WorkParts)
    (size digest : List ℕ)
    → fold with_line content (lines origin stage w size digest) ≡ record { origin = origin; stage = stage; work = w }
lines-say content none origin stage w size digest =
    let begun : Content = record { origin = origin; stage = stage; work = content.work } in
    fold-append with_line begun (map OfWork (work_lines w)) (End size digest ∷ [])
    ∙ of_work-say begun (work_lines w)
    ∙ ap (λ parts. record { origin = origin; stage = stage; work = parts })
    (ap (λ parts. fold with_work_line parts (work_lines w)) none ∙ work_lines-say w)

-- ---- their values

HasDigest-leftover : (leftover : Leftover) → HasDigest leftover → IsLine (OfWork (Cleaned (leftover_parts leftover)))
HasDigest-leftover (Text file) is = (IsUtf8-string_bytes file.path, is)
HasDigest-leftover (Directory path) is = IsUtf8-string_bytes path

renamed : (rename : Rename) → IsRenameParts (rename_parts rename)
renamed rename = (IsUtf8-string_bytes rename.from, IsUtf8-string_bytes rename.to)

all_lines : {X P : Type 0} (line : P → WorkLine) (parts : X → P) (xs : List X) → All (λ x. IsLine (OfWork (line (parts x)))) xs
    → All (λ l. IsLine (OfWork l)) (map line (map parts xs))
all_lines line parts xs all =
    All-map (λ l. IsLine (OfWork l)) line (map parts xs) (All-map (λ p. IsLine (OfWork (line p))) parts xs all)

work_lines-all : (origin : Origin) (work : Work) → FitsTypes origin work → All (λ l. IsLine (OfWork l)) (work_lines (parts_of work))
work_lines-all origin work values =
    let P = λ (l : WorkLine). IsLine (OfWork l) in
    let parts = parts_of work in
    let t = map NewText parts.texts in
    let s = map Staged parts.staged in
    let m = map Made parts.made in
    let p = map Placed parts.placed in
    let c = map Cleaned parts.cleaned in
    All-append P t (s ++ (m ++ (p ++ c))) (all_lines NewText text_parts work.texts.items
    (All-weaker (λ text. IsDigest text.digest) (λ text. IsLine (OfWork (NewText (text_parts text))))
    (λ text is. (IsUtf8-string_bytes text.path, is)) work.texts.items values.texts))
    (All-append P s (m ++ (p ++ c)) (all_lines Staged rename_parts work.staged.items
    (λ k d inside. renamed (get_or work.staged.items k d)))
    (All-append P m (p ++ c) (all_lines Made string_bytes work.made.items (λ k d inside. IsUtf8-string_bytes (get_or work.made.items k d)))
    (All-append P p c (all_lines Placed rename_parts work.placed.items
    (λ k d inside. renamed (get_or work.placed.items k d)))
    (all_lines Cleaned leftover_parts work.cleaned.items
    (All-weaker HasDigest (λ leftover. IsLine (OfWork (Cleaned (leftover_parts leftover)))) HasDigest-leftover
    work.cleaned.items values.cleaned)))))

-- all lines of a journal are lines
pub lines-all : (origin : Origin) (stage : Stage) (work : Work) (size digest : List ℕ) → FitsTypes origin work
    → All IsLine (lines origin stage (parts_of work) size digest)
lines-all origin stage work size digest values =
    let end = End size digest ∷ [] in
    let does = map OfWork (work_lines (parts_of work)) in
    let staged = AtStage stage ∷ (does ++ end) in
    let timed = OfOrigin Time origin.time ∷ staged in
    let owned = OfOrigin Owner origin.owner ∷ timed in
    let run = OfOrigin Run origin.run ∷ owned in
    let filed = OfOrigin File origin.file ∷ run in
    All-cons IsLine (OfOrigin Root origin.root) filed values.root
    (All-cons IsLine (OfOrigin File origin.file) run values.file
    (All-cons IsLine (OfOrigin Run origin.run) owned values.run
    (All-cons IsLine (OfOrigin Owner origin.owner) timed values.owner
    (All-cons IsLine (OfOrigin Time origin.time) staged values.time
    (All-cons IsLine (AtStage stage) (does ++ end) tt
    (All-append IsLine does end (All-map IsLine OfWork (work_lines (parts_of work)) (work_lines-all origin work values))
    (All-cons IsLine (End size digest) [] tt (All-nil IsLine))))))))

-- ---- line by line

-- the lines that are left, added to what was read, say all
pub record IsLeft (left : List ℕ) (content : Content) (all : Content) : Type 0 where
  lines_left : List Line
  are : All IsLine lines_left
  written : left ≡ flat_map ended lines_left
  say : fold with_line content lines_left ≡ all

-- at the beginning all lines are left
pub IsLeft-all : (text left : List ℕ) (content : Content) (origin : Origin) (stage : Stage) (work : Work)
    → FitsTypes origin work → text ≡ journal_bytes origin stage work → content.work ≡ no_work
    → ((back : List ℕ) → text ≡ codes "relmove journal 3" ++ 10 ∷ back → left ≡ back)
    → IsLeft left content (record { origin = origin; stage = stage; work = parts_of work })
IsLeft-all text left content origin stage work values is none cut =
    let (size, digest, bytes) = journal_bytes-lines origin stage work in record {
      lines_left = lines origin stage (parts_of work) size digest;
      are = lines-all origin stage work size digest values;
      written = cut _ (is ∙ bytes);
      say = lines-say content none origin stage (parts_of work) size digest;
    }

-- the next line is one of them
pub record IsNext (line rest : List ℕ) (content all : Content) : Type 0 where
  pub said : Line
  pub is : IsLine said
  pub written : line ≡ line_text said
  pub others : (after : Content) → after ≡ with_line content said → IsLeft rest after all

pub IsLeft-next : (left : List ℕ) (content all : Content) (r : Option (Bor (List ℕ) × Bor (List ℕ)))
    → IsSplitOnceResult 10 left r → IsLeft left content all
    → MatchOption r (content ≡ all) (λ x. IsNext x.0.now x.1.now content all)
IsLeft-next left content all r split so = go r split so.lines_left so.are so.written so.say
  where
    go : (r : Option (Bor (List ℕ) × Bor (List ℕ))) → IsSplitOnceResult 10 left r → (ls : List Line) → All IsLine ls
        → left ≡ flat_map ended ls → fold with_line content ls ≡ all
        → MatchOption r (content ≡ all) (λ x. IsNext x.0.now x.1.now content all)
    go None split [] are written say = say
    go (Some x) split [] are written say =
        let cut = (split_parts 10 left (Some x) split (lit< tt)).0 in
        absurd (omega (arith, ap length (sym cut ∙ written), length-append x.0.now (10 ∷ x.1.now)))
    go None split (l ∷ ls) are written say =
        absurd (split_after 10 left (line_text l) (flat_map ended ls) None split (lit< tt)
        (written ∙ append_assoc (line_text l) (10 ∷ []) (flat_map ended ls)) (Lacks-get_or 10 (line_text l) (line_text-lacks l)))
    go (Some x) split (l ∷ ls) are written say =
        let (front, back) = split_after 10 left (line_text l) (flat_map ended ls) (Some x) split (lit< tt)
        (written ∙ append_assoc (line_text l) (10 ∷ []) (flat_map ended ls)) (Lacks-get_or 10 (line_text l) (line_text-lacks l)) in
        record {
          said = l;
          is = All-head IsLine l ls are;
          written = front;
          others = λ after same. record {
            lines_left = ls;
            are = All-tail IsLine l ls are;
            written = back;
            say = ap (λ c. fold with_line c ls) same ∙ say;
          };
        }
