-- When a text stands for an old path, and when bytes write one.
use Rattle.std.proofs.Common.{◌≡◌, ◌⊎◌, ◌<◌, ◌≤◌, ℕ, Bool, not, true, false, ◌||◌, ◌==◌, List, [], ◌∷◌, ◌++◌, Option, None, Some, IsSome, inl, inr, refl, sym, ap, ◌∙◌, subst, true≢false, arith, cond, length, map}
use Rattle.std.specs.Prelude.{nat_lt}
use Rattle.std.specs.List.{Contains, list_any}
use Rattle.std.specs.Option.{option_map}
use Rattle.std.specs.Str.{IsUtf8}
use Rattle.std.proofs.lemmas.Bool.{cases_Bool, eq-eqb, eqb-false, eqb-true, or_left, or_parts, or_right}
use Rattle.percent_encoding.specs.Percent.{percent_decode, percent_sign}
use Rattle.percent_encoding.proofs.PercentLemmas.{percent_decode-nil, percent_decode_not_percent}
use Rattle.relative_path.specs.Steps.{Step, components, dot, is_slash, name as one_name, slash}
use Rattle.relative_path.specs.Naming.{file_name_of}
use Rattle.relative_path.specs.RelativePath.{path_text}
use Rattle.relative_path.specs.Unix.{has_root}
use Rattle.relative_path.proofs.ForCallers.{kept-name, last_name-name}
use Rattle.relative_path_places.specs.declared.normal_view.NormalView.{NormalView}
use Rattle.relmove_mentions.specs.Bases.{base_components, base_text}
use Rattle.relmove_mentions.specs.Endings.{ending_of, has_name, may_end}
use Rattle.relmove_mentions.specs.Hashes.{may_have}
use Rattle.relmove_mentions.specs.NameHashes.{hash_of, last_hash, name_alone, two_hash}
use Rattle.relmove_mentions.specs.Names.{has_steps}
use Rattle.relmove_mentions.specs.OldNames.{Finds, Has, WithOthers, endings_for, may_end_in}
use Rattle.relmove_mentions.specs.Spans.{may_separate, others_in}
use Rattle.relmove_mentions.specs.Written.{IsWritten, LeadsFromDirectory, LeadsFromTop, LeadsToPath, StandsFor}
use Rattle.relmove_mentions.specs.declared.bases.Base.{Base}
use Rattle.relmove_mentions.specs.declared.file_text.FileText.{FileText}
use Rattle.relmove_mentions.specs.declared.endings.Ending.{Ending}
use Rattle.relmove_mentions.specs.declared.hashes.Hashes.{Hashes}
use Rattle.relmove_mentions.specs.declared.old_names.OldNames.{OldNames}
use Rattle.relmove_mentions.proofs.EndingsLemmas.{components-alone, ends-decoded, ends-name, has_name-named}
use Rattle.relmove_mentions.proofs.FirstLemmas.{first_or_rest}
use Rattle.relmove_mentions.proofs.OldNamesLemmas.{Finds-map, Finds-second, LeadsToPath-above, LeadsToPath-two, StandsFor-last, base_components-same}

-- a text that ends in a name stands for the path to which it leads
pub Finds-text : (olds : List (List ℕ)) (file : FileText) (others : ℕ) (text : List ℕ) (found : Option NormalView)
    → IsUtf8 text → IsSome (file_name_of text)
    → Finds olds (WithOthers others (λ old. LeadsFromDirectory olds file text old ⊎ LeadsFromTop olds file text old)) found
    → Finds olds (WithOthers others (StandsFor olds file text)) found
Finds-text olds file others text found utf8 named finds =
    Finds-map olds (WithOthers others (λ old. LeadsFromDirectory olds file text old ⊎ LeadsFromTop olds file text old))
    (WithOthers others (StandsFor olds file text)) found
    (λ old is_old (some, leads). (some, record { utf8 = utf8; named = named; leads = leads }))
    (λ old (some, stands). (some, stands.leads)) finds

-- bytes without a percent sign are decoded to themselves
pub percent_decode-plain : (bytes : List ℕ) → list_any (λ b. b == percent_sign) bytes ≡ false → percent_decode bytes ≡ bytes
percent_decode-plain [] none = percent_decode-nil
percent_decode-plain (b ∷ bytes) none = of (b == percent_sign) refl none (λ rest. percent_decode-plain bytes rest) where
  of : (t : Bool) → (b == percent_sign) ≡ t → (t || list_any (λ c. c == percent_sign) bytes) ≡ false
      → (list_any (λ c. c == percent_sign) bytes ≡ false → percent_decode bytes ≡ bytes)
      → percent_decode (b ∷ bytes) ≡ b ∷ bytes
  of true is none others = absurd (true≢false none)
  of false is none others =
      percent_decode_not_percent b bytes (λ e. eqb-false b percent_sign is e) ∙ ap (λ rest. b ∷ rest) (others none)

-- so if nothing is found for these bytes as they are, nothing is found
pub Finds-plain : (olds : List (List ℕ)) (file : FileText) (others : ℕ) (bytes : List ℕ)
    → list_any (λ b. b == percent_sign) bytes ≡ false → Finds olds (WithOthers others (StandsFor olds file bytes)) None
    → Finds olds (WithOthers others (IsWritten olds file bytes)) None
Finds-plain olds file others bytes none finds =
    Finds-second olds others (StandsFor olds file bytes) (StandsFor olds file (percent_decode bytes)) None finds
    (subst (λ text. Finds olds (WithOthers others (StandsFor olds file text)) None) (sym (percent_decode-plain bytes none)) finds)

-- ---- what bytes end in that write an old path

may_end-encoded : (a b c : Bool) → a ≡ true → (a || b || c) ≡ true
may_end-encoded true b c is = refl
may_end-encoded false b c is = absurd (true≢false (sym is))

may_end-dot : (a b c : Bool) → b ≡ true → (a || b || c) ≡ true
may_end-dot true b c is = refl
may_end-dot false true c is = refl
may_end-dot false false c is = absurd (true≢false (sym is))

may_end-known : (a b c : Bool) → c ≡ true → (a || b || c) ≡ true
may_end-known true b c is = refl
may_end-known false true c is = refl
may_end-known false false c is = is

-- a name may end as a text that stands for an old path, if the set has the ending of the text's last name
may_end-text : (olds : List (List ℕ)) (endings : Hashes) (file : FileText) (text old : List ℕ)
    → ((t n : List ℕ) → StandsFor olds file t old → file_name_of t ≡ Some n → may_have endings (ending_of n).hash ≡ true)
    → StandsFor olds file text old → may_end endings (ending_of text) ≡ true
may_end-text olds endings file text old has stands = of (file_name_of text) refl stands.named where
  e : Ending
  e = ending_of text

  of : (found : Option (List ℕ)) → file_name_of text ≡ found → IsSome found → may_end endings e ≡ true
  of None is some = absurd (true≢false (sym some))
  of (Some n) is some = elim (ends-name text n is) [
    | inl dotted ↦ may_end-dot e.encoded (e.hash == dot) (may_have endings e.hash) (eq-eqb e.hash dot dotted)
    | inr same ↦
        may_end-known e.encoded (e.hash == dot) (may_have endings e.hash)
        (ap (may_have endings) same ∙ has text n stands is)
  ]

-- and as bytes that write one
may_end-bytes : (olds : List (List ℕ)) (endings : Hashes) (file : FileText) (bytes old : List ℕ)
    → ((t n : List ℕ) → StandsFor olds file t old → file_name_of t ≡ Some n → may_have endings (ending_of n).hash ≡ true)
    → IsWritten olds file bytes old → may_end endings (ending_of bytes) ≡ true
may_end-bytes olds endings file bytes old has (inl stands) = may_end-text olds endings file bytes old has stands
may_end-bytes olds endings file bytes old has (inr stands) = elim (ends-decoded bytes) [
  | inl same ↦ ap (may_end endings) same ∙ may_end-text olds endings file (percent_decode bytes) old has stands
  | inr encoded ↦
      let e = ending_of bytes in may_end-encoded e.encoded (e.hash == dot) (may_have endings e.hash) encoded
]

pub may_end-written : (olds : List (List ℕ)) (set : OldNames) (file : FileText) (bytes old : List ℕ) → Has olds set
    → Contains olds old → IsWritten olds file bytes old → may_end set.endings (ending_of bytes) ≡ true
may_end-written olds set file bytes old has is_old written =
    may_end-bytes olds set.endings file bytes old
    (λ t n stands is. (StandsFor-last olds set file t n old has is_old is stands).ending) written

pub may_end-with_others : (olds : List (List ℕ)) (set : OldNames) (file : FileText) (bytes old : List ℕ) → Has olds set
    → Contains olds old → 0 < others_in old → IsWritten olds file bytes old
    → may_end set.endings_with_others (ending_of bytes) ≡ true
may_end-with_others olds set file bytes old has is_old some written =
    may_end-bytes olds set.endings_with_others file bytes old
    (λ t n stands is. (StandsFor-last olds set file t n old has is_old is stands).with_others some) written

-- and with so many of the bytes that don't go on a path
pub may_end-for : (olds : List (List ℕ)) (set : OldNames) (file : FileText) (bytes old : List ℕ) (others : ℕ) → Has olds set
    → Contains olds old → others ≤ others_in old → IsWritten olds file bytes old
    → may_end (endings_for set others) (ending_of bytes) ≡ true
may_end-for olds set file bytes old others has is_old few written = of (others == 0) refl where
  of : (none : Bool) → (others == 0) ≡ none
      → may_end (cond none set.endings set.endings_with_others) (ending_of bytes) ≡ true
  of true none = may_end-written olds set file bytes old has is_old written
  of false some =
      may_end-with_others olds set file bytes old has is_old (omega (arith, few, eqb-false others 0 some)) written

-- ---- bytes that write an old path have a name

-- slashes are decoded to themselves
slashes-plain : (bytes : List ℕ) → has_name bytes ≡ false → list_any (λ b. b == percent_sign) bytes ≡ false
slashes-plain [] none = refl
slashes-plain (b ∷ bytes) none = elim (cases_Bool (is_slash b)) [
  | inl slashed ↦
      ap (λ c. c == percent_sign || list_any (λ d. d == percent_sign) bytes) (eqb-true b slash slashed)
      ∙ slashes-plain bytes (sym (ap (λ c. not c || has_name bytes) slashed) ∙ none)
  | inr plain ↦ absurd (true≢false (sym (ap (λ c. not c || has_name bytes) plain) ∙ none))
]

has_name-text : (olds : List (List ℕ)) (file : FileText) (text old : List ℕ) → StandsFor olds file text old
    → has_name text ≡ true
has_name-text olds file text old stands = of (file_name_of text) refl stands.named where
  of : (found : Option (List ℕ)) → file_name_of text ≡ found → IsSome found → has_name text ≡ true
  of None is some = absurd (true≢false (sym some))
  of (Some n) is some = has_name-named text n is

pub has_name-written : (olds : List (List ℕ)) (file : FileText) (bytes old : List ℕ) → IsWritten olds file bytes old
    → has_name bytes ≡ true
has_name-written olds file bytes old (inl stands) = has_name-text olds file bytes old stands
has_name-written olds file bytes old (inr stands) = elim (cases_Bool (has_name bytes)) [
  | inl some ↦ some
  | inr none ↦
      sym (ap has_name (percent_decode-plain bytes (slashes-plain bytes none)))
      ∙ has_name-text olds file (percent_decode bytes) old stands
]

-- ---- a name alone

has_root-none : (text : List ℕ) → list_any is_slash text ≡ false → has_root text ≡ false
has_root-none [] none = refl
has_root-none (b ∷ bs) none = (or_parts (is_slash b) (list_any is_slash bs) none).0

name_alone-one : (text : List ℕ) → name_alone (one_name text ∷ []) ≡ Some (hash_of text)
name_alone-one text =
    ap (λ cs. cond (has_steps cs) None (last_hash (one_name text ∷ []))) (kept-name [] text)
    ∙ ap (option_map hash_of) (last_name-name [] text)

-- where the last name of a directory and then a name may come, they may for one of the bases of these directories
any-base : (may : Option ℕ → Bool) (bases : List Base) (directory : List Step)
    → Contains (map base_components bases) directory → may (last_hash directory) ≡ true
    → list_any (λ (base : Base). may base.name) bases ≡ true
any-base may [] directory (k, within, is) holds = absurd (omega (arith, within))
any-base may (base ∷ bases) directory has holds =
    elim (first_or_rest (base_components base) (map base_components bases) directory has) [
      | inl same ↦ or_left _ _ (ap may (base.hashed ∙ ap last_hash same) ∙ holds)
      | inr rest ↦ or_right _ _ (any-base may bases directory rest holds)
    ]

-- a text without a slash leads from a directory of the file as one name, if it stands for an old path
from-directory : (olds : List (List ℕ)) (file : FileText) (bases : List Base) (text old : List ℕ) (may : Option ℕ → Bool)
    → map base_text bases ≡ map path_text file.directories.now → list_any is_slash text ≡ false → StandsFor olds file text old
    → ((directory : List Step) → LeadsToPath olds (directory ++ one_name text ∷ []) old → may (last_hash directory) ≡ true)
    → list_any (λ (base : Base). may base.name) bases ≡ true
from-directory olds file bases text old may same none stands holds = of (file_name_of text) refl stands.named where
  of : (found : Option (List ℕ)) → file_name_of text ≡ found → IsSome found
      → list_any (λ (base : Base). may base.name) bases ≡ true
  of None is some = absurd (true≢false (sym some))
  of (Some n) is some =
      let alone : components text ≡ one_name text ∷ [] = components-alone text n none is in
      elim stands.leads [
        | inl (below, from) ↦
            any-base may bases from.directory
            (subst (λ list. Contains list from.directory) (sym (base_components-same bases file.directories.now same))
            from.is_one)
            (holds from.directory (subst (λ cs. LeadsToPath olds (from.directory ++ cs) old) alone from.leads))
        | inr (some_directory, from) ↦
            let one : nat_lt 1 (length (components text)) ≡ false = ap (λ cs. nat_lt 1 (length cs)) alone in
            absurd (true≢false (sym some_directory ∙ ap (λ b. b || nat_lt 1 (length (components text))) (has_root-none text none)
            ∙ one))
      ]

-- so a name of the path ends in the last name of a directory and this one
pub StandsFor-alone : (olds : List (List ℕ)) (set : OldNames) (file : FileText) (bases : List Base) (text old : List ℕ)
    → Has olds set → Contains olds old → map base_text bases ≡ map path_text file.directories.now
    → list_any is_slash text ≡ false → StandsFor olds file text old
    → list_any (λ (base : Base). may_end_in set (two_hash base.name (Some (hash_of text)))) bases ≡ true
StandsFor-alone olds set file bases text old has is_old same none stands =
    from-directory olds file bases text old (λ name. may_end_in set (two_hash name (Some (hash_of text)))) same none stands
    (λ directory leads.
    ap (λ hash. may_end_in set (two_hash (last_hash directory) hash)) (sym (name_alone-one text))
    ∙ LeadsToPath-two olds set directory (one_name text ∷ []) old has is_old leads)

-- and in a name after the last name of a directory
pub StandsFor-above : (olds : List (List ℕ)) (set : OldNames) (file : FileText) (bases : List Base) (text old : List ℕ)
    → Has olds set → Contains olds old → map base_text bases ≡ map path_text file.directories.now
    → list_any is_slash text ≡ false → StandsFor olds file text old
    → list_any (λ (base : Base). may_end_in set base.name) bases ≡ true
StandsFor-above olds set file bases text old has is_old same none stands =
    from-directory olds file bases text old (may_end_in set) same none stands
    (λ directory leads. LeadsToPath-above olds set directory text old has is_old leads)

-- what a name alone writes, it stands for
pub StandsFor-written : (olds : List (List ℕ)) (file : FileText) (bytes old : List ℕ)
    → list_any (λ b. b == percent_sign) bytes ≡ false → IsWritten olds file bytes old → StandsFor olds file bytes old
StandsFor-written olds file bytes old none written = elim written [
  | inl stands ↦ stands
  | inr stands ↦ subst (λ text. StandsFor olds file text old) (percent_decode-plain bytes none) stands
]

-- a text without a byte that may separate names has no slash, and no percent sign
no-separator : (text : List ℕ) → list_any may_separate text ≡ false
    → (list_any is_slash text ≡ false) × (list_any (λ b. b == percent_sign) text ≡ false)
no-separator [] none = (refl, refl)
no-separator (b ∷ bs) none =
    let (first, others) = or_parts (may_separate b) (list_any may_separate bs) none in
    let (plain, decoded) = or_parts (is_slash b) (b == percent_sign) first in
    let (slashes, percents) = no-separator bs others in (
      ap (λ c. c || list_any is_slash bs) plain ∙ slashes,
      ap (λ c. c || list_any (λ d. d == percent_sign) bs) decoded ∙ percents,
    )

-- where no name alone can be one, what writes an old path has such a byte
pub separates-written : (olds : List (List ℕ)) (set : OldNames) (file : FileText) (bases : List Base) (bytes old : List ℕ)
    → Has olds set → Contains olds old → map base_text bases ≡ map path_text file.directories.now
    → list_any (λ (base : Base). may_end_in set base.name) bases ≡ false → IsWritten olds file bytes old
    → list_any may_separate bytes ≡ true
separates-written olds set file bases bytes old has is_old same alone written = elim (cases_Bool (list_any may_separate bytes)) [
  | inl some ↦ some
  | inr none ↦
      let (slashes, percents) = no-separator bytes none in
      absurd (true≢false (sym (StandsFor-above olds set file bases bytes old has is_old same slashes
      (StandsFor-written olds file bytes old percents written)) ∙ alone))
]
