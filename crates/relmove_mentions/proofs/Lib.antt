mod HashesLemmas
mod FirstLemmas
mod EndingsLemmas
mod OldNamesLemmas
mod SpansLemmas
mod WrittenLemmas
mod MentionsLemmas
