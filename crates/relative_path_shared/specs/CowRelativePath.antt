-- What a `CowRelativePath` shows.
use Rattle.std.specs.Prelude.{ℕ, List}
use Rattle.relative_path.specs.Steps.{Step, components}
use Rattle.relative_path.specs.RelativePath.{path_text}
use Rattle.relative_path_shared.specs.declared.shared.cow.CowRelativePath.{CowRelativePath}
use Rattle.relative_path_shared.specs.declared.shared.cow.CowRelativePath.TheVariants.{Borrowed, Owned}

-- the text of the path, whichever it is
abbrev pub cow_text : CowRelativePath → List ℕ
cow_text (Borrowed path) = path_text path
cow_text (Owned buf) = buf.text

-- the components of the path
abbrev pub cow_components : CowRelativePath → List Step
cow_components cow = components (cow_text cow)
