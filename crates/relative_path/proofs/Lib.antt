mod ListsLemmas
mod StepsLemmas
mod SlicesLemmas
mod SpellingLemmas
mod WalkLemmas
mod NormalStepsLemmas
mod ClimbingLemmas
mod SlashesLemmas
mod MaskedLemmas
mod CountingLemmas
mod EditingLemmas
mod WritingLemmas
mod SpansLemmas
mod ComponentsLemmas
mod NamingLemmas
mod NamingExtensionLemmas
mod NamingEditsLemmas
mod PrefixingLemmas
mod NormalFormLemmas
mod NormalizingLemmas
mod RelatingLemmas
mod UnixComponentsLemmas
mod UnixAboveLemmas
mod UnixTextsLemmas
mod UnixWaysLemmas
mod PushingLemmas
pub mod OnLiterals
pub mod ForCallers
