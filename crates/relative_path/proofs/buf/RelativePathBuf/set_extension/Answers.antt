-- The text is cut at the end of its stem.
use Rattle.std.proofs.Common.{rules, arith, ap, refl, ◌∙◌, ◌≡◌, ◌+◌, ◌++◌, subst, sym, length, length-append}
use Rattle.std.specs.Str.{IsUtf8}
use Rattle.relative_path.specs.Naming.{IsExtended, dotted}
use Rattle.relative_path.proofs.SlicesLemmas.{length-IsPrefix}
use Rattle.relative_path.proofs.NamingLemmas.{IsPrefix-IsExtended, IsExtended-push, ExceedsRoom-extended}
use Rattle.relative_path.proofs.NamingExtensionLemmas as naming
use Rattle.relative_path.proofs.NamingEditsLemmas.{IsBeside-IsExtended}
use Rattle.relative_path.proofs.buf.RelativePathBuf.set_extension.Goals as goal

pub returns-in_err-reserve_to-clause-full : goal.returns-in_err-reserve_to-clause-full
returns-in_err-reserve_to-clause-full c =
    let text = c.args.self.now.text in
    let same = c.as_str.ensures.value ∙ ap (λ b. b.text) c.self.view_is in
    let front = c.in-Some.front.now in
    let extension = c.args.extension.now in
    let is : IsExtended text extension (front ++ dotted extension) =
    rw (← same) (IsExtended-push _ _ _ (c.in-Some.ensures.found.0 refl) c.in-Some.ensures.text) in
    let count : length front + c.dotted_len.result ≡ length (front ++ dotted extension) =
    omega (arith, c.dotted_len.ensures, length-append front (dotted extension)) in
    let long = ExceedsRoom-extended text extension _ c.args.self.now.room _ is count c.in_err-reserve_to.ensures.full in
    search rules

pub returns-in_err-reserve_to-clause-taken_off : goal.returns-in_err-reserve_to-clause-taken_off
returns-in_err-reserve_to-clause-taken_off c = λ empty.
    let same = c.as_str.ensures.value ∙ ap (λ b. b.text) c.self.view_is in
    let front = length-IsPrefix (IsPrefix-IsExtended _ _ (c.in-Some.ensures.found.0 refl) c.in-Some.ensures.text) in
    let none = c.dotted_len.ensures ∙ ap (λ e. length (dotted e)) empty in
    absurd (omega (arith, front, none, ap length same, c.in_err-reserve_to.ensures.longer))

pub cut_to-requires : goal.cut_to-requires
cut_to-requires c =
    let same = c.as_str.ensures.value ∙ ap (λ b. b.text) c.self.view_is ∙ sym c.in_ok-reserve_to.ensures.text in
    let prefix = IsPrefix-IsExtended _ _ (c.in-Some.ensures.found.0 refl) c.in-Some.ensures.text in
    let front = rw same at prefix in
    subst IsUtf8 front.front c.in-Some.ensures.utf8

pub returns-clause-ok : goal.returns-clause-ok
returns-clause-ok c =
    let shown = c.as_str.ensures.value ∙ ap (λ b. b.text) c.self.view_is in
    let prefix = IsPrefix-IsExtended _ _ (c.in-Some.ensures.found.0 refl) c.in-Some.ensures.text in
    let front = rw (shown ∙ sym c.in_ok-reserve_to.ensures.text) at prefix in
    let cut = c.cut_to.ensures.text ∙ sym front.front in
    let added = c.push_extension.ensures.text ∙ ap (λ x. x ++ dotted c.args.extension.now) cut in
    rw (added, ← shown)
    (IsExtended-push _ _ _ (c.in-Some.ensures.found.0 refl) c.in-Some.ensures.text)

pub returns-clause-extension : goal.returns-clause-extension
returns-clause-extension c = λ _ plain.
    let shown = c.as_str.ensures.value ∙ ap (λ b. b.text) c.self.view_is in
    let some = rw shown at (c.in-Some.ensures.found.0 refl) in
    naming.extension-IsExtended c.args.self.now.text c.args.extension.now _ plain some (returns-clause-ok c)

pub returns-clause-components : goal.returns-clause-components
returns-clause-components c = λ n named. naming.components-IsExtended _ _ _ n named (returns-clause-ok c)

pub returns-clause-bare : goal.returns-clause-bare
returns-clause-bare c = λ n named. naming.components-IsExtended_empty _ _ _ n named (returns-clause-ok c)

pub returns-clause-beside : goal.returns-clause-beside
returns-clause-beside c = λ plain. IsBeside-IsExtended _ _ _ plain (returns-clause-ok c)

pub returns-clause-stem : goal.returns-clause-stem
returns-clause-stem c = λ plain. naming.stem-IsExtended _ _ _ plain (returns-clause-ok c)
