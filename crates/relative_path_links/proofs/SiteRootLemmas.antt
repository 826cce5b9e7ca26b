-- Targets that lead from a site's root: read with a dot before them, and written without it.
use Rattle.std.proofs.Common.{◌≡◌, ℕ, zero, suc, ◌-◌, true, false, not, ◌&&◌, List, [], ◌∷◌, ◌++◌, length, take, drop, codes, Ok, Option, None, IsSome, inl, inr, refl, sym, ap, ◌∙◌, subst, arith, take-append-drop, true≢false, if◌then◌else◌}
use Rattle.std.proofs.lemmas.Bool.{and_parts, or_cases, cond_both, false_from_ne_true}
use Rattle.std.proofs.lemmas.Bool.Decides.{nat_tests}
use Rattle.std.proofs.lemmas.Slice.Eq.{bytes_eq-Decides}
use Rattle.std.proofs.lemmas.Str.{encode_ascii, IsCharBoundary-before_ascii}
use Rattle.std.specs.Cmp.Lexicographic.{same_text}
use Rattle.std.specs.List.{starts_with}
use Rattle.std.specs.Option.{is_some}
use Rattle.std.specs.Prelude.{nat_eq}
use Rattle.std.specs.Str.{bytes_eq, IsCharBoundary}
use Rattle.relative_path.specs.Steps.{Step, slash, is_slash, up, components, spell}
use Rattle.relative_path.specs.Unix.{has_root}
use Rattle.relative_path.specs.Walk.{place_of}
use Rattle.relative_path.proofs.ForCallers.{components-pushed}
use Rattle.relative_path.proofs.OnLiterals.{relative_path_on_literals}
use Rattle.target_paths.specs.declared.target.TargetSyntax.{TargetSyntax}
use Rattle.target_paths.specs.declared.target.TargetSyntax.TheVariants.{Markdown, Attribute}
use Rattle.target_paths.specs.Pieces.{Piece, plain, read_pieces}
use Rattle.target_paths.specs.Reading.{before_tail, path_pieces, IsTail, IsTailAt, meaning, path_before, not_relative}
use Rattle.target_paths.specs.Source.{source_piece}
use Rattle.target_paths.specs.Writing.{is_always_escaped, percent_text, path_written, target_of}
use Rattle.relative_path_links.specs.SiteRoot.{begins_rooted, begins_with_dot, leads_from_root, without_dot, meaning_from_root, root_for, target_at}
use Rattle.relative_path_links.specs.Rewriter.{begins_with_up, lacks_slash, with_dot, with_slash, written_like, IsTakenBack}
use Rattle.relative_path_links.proofs.WrittenLemmas.{has_root-spelled, IsSame-written}

-- no target leads from a root that isn't known
pub root_for-unknown : (target : List ℕ) → root_for None target ≡ None
root_for-unknown target =
    cond_both (begins_rooted target) None None (λ (root : Option (List Step)). root ≡ None) (λ _. refl) (λ _. refl)

-- ---- a dot and a slash are read as themselves

dot_piece : (syntax : TargetSyntax) (text : List ℕ) → source_piece syntax 46 text ≡ plain 46
dot_piece Markdown text = ap (λ bytes. record { size = 1; read = Ok bytes }) (encode_ascii 46 (omega arith))
dot_piece Attribute text = ap (λ bytes. record { size = 1; read = Ok bytes }) (encode_ascii 46 (omega arith))

slash_piece : (syntax : TargetSyntax) (text : List ℕ) → source_piece syntax 47 text ≡ plain 47
slash_piece Markdown text = ap (λ bytes. record { size = 1; read = Ok bytes }) (encode_ascii 47 (omega arith))
slash_piece Attribute text = ap (λ bytes. record { size = 1; read = Ok bytes }) (encode_ascii 47 (omega arith))

-- so neither begins a tail
no_tail-dot : (syntax : TargetSyntax) (text : List ℕ) → ¬ IsTail syntax (46 ∷ text)
no_tail-dot syntax text is =
    let first = ap (λ (piece : Piece). before_tail (piece ∷ read_pieces (source_piece syntax) (piece.size - 1) text))
    (dot_piece syntax text) in
    let some : plain 46 ∷ path_pieces syntax text ≡ [] = sym first ∙ is in
    absurd (cc)

no_tail-slash : (syntax : TargetSyntax) (text : List ℕ) → ¬ IsTail syntax (47 ∷ text)
no_tail-slash syntax text is =
    let first = ap (λ (piece : Piece). before_tail (piece ∷ read_pieces (source_piece syntax) (piece.size - 1) text))
    (slash_piece syntax text) in
    let some : plain 47 ∷ path_pieces syntax text ≡ [] = sym first ∙ is in
    absurd (cc)

less_one : (k : ℕ) → suc k - 1 ≡ k
less_one k = omega arith

-- the tail of a target with a dot before it is a tail of the target
pub IsTailAt-without_dot : (syntax : TargetSyntax) (target : List ℕ) (tail_at : ℕ) → IsTailAt syntax (46 ∷ target) tail_at
    → IsTailAt syntax target (tail_at - 1)
IsTailAt-without_dot syntax target zero is = absurd (no_tail-dot syntax target is.tail)
IsTailAt-without_dot syntax target (suc k) is =
    subst (IsTailAt syntax target) (sym (less_one k)) (record {
      boundary = (omega (arith, is.boundary.0), λ less high. is.boundary.1 (omega (arith, less)) high);
      tail = is.tail;
    })

-- a tail doesn't begin with a slash
has_root-tail : (syntax : TargetSyntax) (tail : List ℕ) → IsTail syntax tail → has_root tail ≡ false
has_root-tail syntax [] is = refl
has_root-tail syntax (b ∷ bs) is = false_from_ne_true (is_slash b)
    (λ slashed. let same : b ≡ 47 = grind (slashed, arith, nat_tests) in
    no_tail-slash syntax bs (subst (λ b. IsTail syntax (b ∷ bs)) same is))

-- ---- a way that begins with `..` leads above its start

climbs-up_first : (way : List ℕ) → begins_with_up way ≡ true → place_of (components way) ≡ None
unfolding relative_path_on_literals
climbs-up_first way first =
    elim (or_cases (bytes_eq way (codes "..")) (starts_with nat_eq way (codes "../")) first) [
      | inl whole ↦
          let is : way ≡ codes ".." = (bytes_eq-Decides way (codes "..")).0 whole in
          ap (λ way. place_of (components way)) is
      | inr front ↦
          let is : way ≡ codes "../" ++ drop 3 way =
          sym (take-append-drop 3 way) ∙ ap (λ text. text ++ drop 3 way) (sym (same_text (codes "../") (take 3 way) (sym front))) in
          let cs : components (codes "../" ++ drop 3 way) ≡ up ∷ components (slash ∷ drop 3 way) =
          components-pushed (codes "..") (slash ∷ drop 3 way) in
          ap (λ way. place_of (components way)) is ∙ ap place_of cs
    ]

-- ---- what is written for a way from the site's root

-- the path begins with a dot and one slash
pub record IsDotted (new : List ℕ) : Type 0 where
  pub rest : List ℕ
  pub text : new ≡ 46 ∷ 47 ∷ rest
  pub one : has_root rest ≡ false

IsDotted-with_slash : (path way : List ℕ) → has_root way ≡ false → IsDotted (with_slash path (46 ∷ 47 ∷ way))
IsDotted-with_slash path way no_slash =
    cond_both (lacks_slash path (46 ∷ 47 ∷ way)) ((46 ∷ 47 ∷ way) ++ slash ∷ []) (46 ∷ 47 ∷ way) IsDotted
    (by way no_slash) (λ _. record { rest = way; text = refl; one = no_slash }) where
      by : (way : List ℕ) → has_root way ≡ false → lacks_slash path (46 ∷ 47 ∷ way) ≡ true
          → IsDotted ((46 ∷ 47 ∷ way) ++ slash ∷ [])
      by [] no_slash lacks = absurd (true≢false (sym (and_parts _ _ lacks).1))
      by (b ∷ bs) no_slash lacks = record { rest = (b ∷ bs) ++ slash ∷ []; text = refl; one = no_slash }

-- the way is written after a dot and a slash
with_dot-rooted : (path way : List ℕ) → begins_with_dot path ≡ true → IsSome (place_of (components way))
    → with_dot path way ≡ 46 ∷ 47 ∷ way
with_dot-rooted path way dotted place =
    let no_up : begins_with_up way ≡ false = false_from_ne_true (begins_with_up way)
    (λ first. true≢false (sym place ∙ ap is_some (climbs-up_first way first))) in
    rw (dotted, no_up) refl

pub IsDotted-written : (path way : List ℕ) → begins_with_dot path ≡ true → IsSome (place_of (components way))
    → has_root way ≡ false → IsDotted (written_like path way)
IsDotted-written path way dotted place no_slash =
    subst (λ new. IsDotted (with_slash path new)) (sym (with_dot-rooted path way dotted place))
    (IsDotted-with_slash path way no_slash)

-- what is written after the dot and the slash of such a path
abbrev written_after : List ℕ → List ℕ
written_after rest = drop 2 (target_of (46 ∷ 47 ∷ rest))

-- so the target without its dot begins with a slash, and the dot is a character
begins_dotted : (path way : List ℕ) → begins_with_dot path ≡ true → IsSome (place_of (components way))
    → (rest : List ℕ) × (written_like path way ≡ 46 ∷ 47 ∷ rest)
begins_dotted path way dotted place =
    subst (λ new. (rest : List ℕ) × (with_slash path new ≡ 46 ∷ 47 ∷ rest)) (sym (with_dot-rooted path way dotted place))
    (cond_both (lacks_slash path (46 ∷ 47 ∷ way)) ((46 ∷ 47 ∷ way) ++ slash ∷ []) (46 ∷ 47 ∷ way)
    (λ new. (rest : List ℕ) × (new ≡ 46 ∷ 47 ∷ rest)) (λ _. (way ++ slash ∷ [], refl)) (λ _. (way, refl)))

pub target-without_dot : (path way tail text : List ℕ) → begins_with_dot path ≡ true → IsSome (place_of (components way))
    → text ≡ target_of (written_like path way) ++ tail
    → IsCharBoundary text 1 × (drop 1 text ≡ target_at true (written_like path way) ++ tail)
target-without_dot path way tail text dotted place whole =
    let (rest, is) = begins_dotted path way dotted place in
    let text_is : text ≡ 46 ∷ 47 ∷ written_after rest ++ tail =
    whole ∙ ap (λ new. target_of new ++ tail) is in (
      subst (λ text. IsCharBoundary text 1) (sym text_is)
          (IsCharBoundary-before_ascii (46 ∷ 47 ∷ written_after rest ++ tail) 1 (omega arith) (omega arith)),
      ap (drop 1) text_is ∙ sym (ap (λ new. target_at true new ++ tail) is),
    )

has_root-spelling : (syntax : TargetSyntax) (rest tail : List ℕ) → has_root rest ≡ false → IsTail syntax tail
    → has_root (written_after rest ++ tail) ≡ false
has_root-spelling syntax [] tail no_slash is_tail = has_root-tail syntax tail is_tail
has_root-spelling syntax (b ∷ bs) tail no_slash is_tail =
    cond_both (is_always_escaped b) (percent_text b) (b ∷ [])
    (λ text. has_root ((text ++ written_after bs) ++ tail) ≡ false) (λ _. refl) (λ _. no_slash)

-- a slash and then a text that begins with none are one slash
begins_rooted-one : (text : List ℕ) → has_root text ≡ false → begins_rooted (47 ∷ text) ≡ true
begins_rooted-one [] no_slash = refl
begins_rooted-one (b ∷ bs) no_slash = ap not no_slash

leads_from_root-one : (rest : List ℕ) → has_root rest ≡ false → IsSome (place_of (components (46 ∷ 47 ∷ rest)))
    → leads_from_root (46 ∷ 47 ∷ rest) ≡ true
leads_from_root-one [] no_slash place = place
leads_from_root-one (b ∷ bs) no_slash place =
    ap (λ t. not t && is_some (place_of (components (46 ∷ 47 ∷ b ∷ bs)))) no_slash ∙ place

-- the target without its dot is read as the path that is written
meaning-dotted : (syntax : TargetSyntax) (rest tail : List ℕ) → has_root rest ≡ false → IsTail syntax tail
    → IsSome (place_of (components (46 ∷ 47 ∷ rest))) → IsTakenBack (46 ∷ 47 ∷ rest)
    → meaning_from_root syntax (target_at true (46 ∷ 47 ∷ rest) ++ tail)
    ≡ path_before (46 ∷ 47 ∷ rest) (length (target_at true (46 ∷ 47 ∷ rest)))
meaning-dotted syntax rest tail no_slash is_tail place taken =
    let more : List ℕ = written_after rest in
    ap (λ t. if t then without_dot (meaning syntax (46 ∷ 47 ∷ more ++ tail)) else not_relative)
    (begins_rooted-one (more ++ tail) (has_root-spelling syntax rest tail no_slash is_tail))
    ∙ ap without_dot (taken syntax tail is_tail)
    ∙ ap (λ t. if t then path_before (46 ∷ 47 ∷ rest) (length (46 ∷ 47 ∷ more) - 1) else not_relative)
    (leads_from_root-one rest no_slash place)
    ∙ ap (path_before (46 ∷ 47 ∷ rest)) (less_one (length (47 ∷ more)))

pub meaning-rooted : (syntax : TargetSyntax) (path way tail : List ℕ) → begins_with_dot path ≡ true
    → way ≡ spell (components way) → IsSome (place_of (components way)) → IsTail syntax tail
    → IsTakenBack (written_like path way)
    → meaning_from_root syntax (target_at true (written_like path way) ++ tail)
    ≡ path_before (path_written (written_like path way)) (length (target_at true (written_like path way)))
meaning-rooted syntax path way tail dotted spelled place is_tail taken =
    let is = IsDotted-written path way dotted place (has_root-spelled way spelled) in
    let same : place_of (components (path_written (written_like path way))) ≡ place_of (components way) =
    sym ((IsSame-written path way spelled).everywhere []) in
    let has : IsSome (place_of (components (path_written (written_like path way)))) = ap is_some same ∙ place in
    rw is.text
    (meaning-dotted syntax is.rest tail is.one is_tail
    (subst (λ new. IsSome (place_of (components (path_written new)))) is.text has)
    (subst IsTakenBack is.text taken))
