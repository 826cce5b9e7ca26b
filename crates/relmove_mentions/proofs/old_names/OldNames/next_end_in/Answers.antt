-- Where a name alone can be one, each mention is a candidate. Elsewhere it has a byte that may separate names.
use Rattle.std.proofs.Common.{◌≡◌, ◌<◌, ◌≤◌, ◌∙◌, ℕ, List, Option, None, Some, arith, false, get_or, inl, inr, refl, sym, true≢false}
use Rattle.std.specs.Prelude.{IfNone}
use Rattle.std.specs.List.{list_any}
use Rattle.std.proofs.lemmas.Bool.{cases_lt}
use Rattle.std.proofs.lemmas.Option.{IfSome_then}
use Rattle.relmove_mentions.specs.Mentions.{IsMention}
use Rattle.relmove_mentions.specs.OldNames.{Has, may_end_in}
use Rattle.relmove_mentions.specs.Spans.{may_separate, span_bytes}
use Rattle.relmove_mentions.specs.declared.bases.Base.{Base}
use Rattle.relmove_mentions.specs.declared.old_names.OldNames.{OldNames}
use Rattle.relmove_mentions.specs.declared.searched_file.SearchedFile.{SearchedFile}
use Rattle.relmove_mentions.specs.declared.text_span.TextSpan.{TextSpan}
use Rattle.relmove_mentions.proofs.MentionsLemmas.{IsCandidate-mention}
use Rattle.relmove_mentions.proofs.SpansLemmas.{list_any-none}
use Rattle.relmove_mentions.proofs.WrittenLemmas.{separates-written}
use Rattle.relmove_mentions.proofs.old_names.OldNames.next_end_in.Goals as goal

IfNone_then : {X : Type 0} (r : Option X) {P Q : Type 0} → IfNone r P → (P → Q) → IfNone r Q
IfNone_then None p then = then p
IfNone_then (Some x) p then = tt

-- a mention in a file without a name alone isn't where no byte may separate names
no-mention : (olds : List (List ℕ)) (set : OldNames) (searched : SearchedFile) (span : TextSpan) (old : List ℕ) → Has olds set
    → list_any (λ (base : Base). may_end_in set base.name) searched.directories.now ≡ false
    → IsMention olds searched.file span old
    → ((at : ℕ) → span.start ≤ at → at < span.end → may_separate (get_or searched.file.text.now at 0) ≡ false) → ⊥
no-mention olds set searched span old has alone is none =
    true≢false
    (sym (separates-written olds set searched.file searched.directories.now (span_bytes searched.file.text.now span) old has
    is.is_old searched.directories_same alone is.written)
    ∙ list_any-none may_separate searched.file.text.now span.start span.end (omega (arith, is.bounded.order)) is.bounded.within none)

pub returns-then-alone-clause-none : goal.returns-then-alone-clause-none
returns-then-alone-clause-none c =
    IfNone_then c.next_end.result c.next_end.ensures.none
    (λ none olds span old has is.
    none span
    (IsCandidate-mention olds c.args.self.now c.args.searched.file c.args.searched.file.text.now span old has refl is))

pub returns-then-alone-clause-first : goal.returns-then-alone-clause-first
returns-then-alone-clause-first c =
    IfSome_then c.next_end.result c.next_end.ensures.first
    (λ end first olds span old has is later.
    first span
    (IsCandidate-mention olds c.args.self.now c.args.searched.file c.args.searched.file.text.now span old has refl is) later)

pub returns-else-alone-clause-none : goal.returns-else-alone-clause-none
returns-else-alone-clause-none c =
    IfNone_then c.next_separator_end.result c.next_separator_end.ensures.none
    (λ none olds span old has is. elim (cases_lt span.start c.args.start) [
      | inl less ↦ less
      | inr later ↦
          absurd (no-mention olds c.args.self.now c.args.searched span old has (sym c.requires.alone ∙ c.if-alone.false) is
          (λ at after before. none at (omega (arith, later, after)) (omega (arith, before, is.bounded.within))))
    ])

pub returns-else-alone-clause-first : goal.returns-else-alone-clause-first
returns-else-alone-clause-first c =
    IfSome_then c.next_separator_end.result c.next_separator_end.ensures.first
    (λ end first olds span old has is later. elim (cases_lt span.end end) [
      | inl less ↦
          absurd (no-mention olds c.args.self.now c.args.searched span old has (sym c.requires.alone ∙ c.if-alone.false) is
          (λ at after before. first at (omega (arith, later, after)) (omega (arith, before, less))))
      | inr more ↦ more
    ])
