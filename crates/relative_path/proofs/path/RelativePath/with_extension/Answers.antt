-- The stem and the extension after it are the extended text.
use Rattle.std.proofs.Common.{◌∙◌, refl}
use Rattle.relative_path.proofs.NamingLemmas.{IsExtended-push}
use Rattle.relative_path.proofs.NamingExtensionLemmas as naming
use Rattle.relative_path.proofs.NamingEditsLemmas.{IsBeside-IsExtended}
use Rattle.relative_path.proofs.path.RelativePath.with_extension.Goals as goal

pub returns-clause-text : goal.returns-clause-text
returns-clause-text c =
    let front = c.from-extended.ensures.0 ∙ c.in_ok-copy_with_room.ensures.text in
    rw (c.push_extension.ensures.text, front)
    (IsExtended-push _ _ _ (c.in-Some.ensures.found.0 refl) c.in-Some.ensures.text)

pub returns-clause-components : goal.returns-clause-components
returns-clause-components c = λ n named. naming.components-IsExtended _ _ _ n named (returns-clause-text c)

pub returns-clause-bare : goal.returns-clause-bare
returns-clause-bare c = λ n named. naming.components-IsExtended_empty _ _ _ n named (returns-clause-text c)

pub returns-clause-beside : goal.returns-clause-beside
returns-clause-beside c = λ plain. IsBeside-IsExtended _ _ _ plain (returns-clause-text c)

pub returns-clause-extension : goal.returns-clause-extension
returns-clause-extension c = λ named plain. naming.extension-IsExtended _ _ _ plain named (returns-clause-text c)

pub returns-clause-stem : goal.returns-clause-stem
returns-clause-stem c = λ plain. naming.stem-IsExtended _ _ _ plain (returns-clause-text c)
