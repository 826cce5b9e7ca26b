-- Normal forms as the code holds them: a count of climbs, and a table of names, each a span of a text.
use Rattle.std.specs.Prelude.{◌≡◌, ℕ, ◌+◌, ◌≤◌, List, ◌++◌, map, replicate, length, vec_len, vec_capacity}
use Rattle.relative_path.specs.declared.normal_form.NormalForm.{NormalForm}
use Rattle.relative_path.specs.declared.spans.Sources.{Sources}
use Rattle.relative_path.specs.Steps.{Step, up, name, components, spell, slashed_len}
use Rattle.relative_path.specs.Walk.{IsSame}
use Rattle.relative_path.specs.Normalizing.{IsNormal}
use Rattle.relative_path.specs.Spans.{span_text}

-- this many `..`, and then the names
abbrev pub ups_then_names : ℕ → List (List ℕ) → List Step
ups_then_names climb names = replicate climb up ++ map name names

-- ds leads where cs leads, and has no more bytes
pub record Reduces (cs ds : List Step) : Type 0 where
  pub same : IsSame cs ds
  pub no_longer : slashed_len ds ≤ slashed_len cs

-- ds is normal, leads where cs leads, and is the components of a text that is no longer than the text of cs
pub record IsSpellableNormalForm (cs ds : List Step) : Type 0 where
  pub normal : IsNormal ds
  pub same : IsSame cs ds
  pub of_text : components (spell ds) ≡ ds
  pub no_longer : length (spell ds) ≤ length (spell cs)

-- the texts that the spans of a form are cut out of
abbrev pub form_sources : NormalForm → Sources
form_sources form = form.sources

-- how many `..` a form begins with
abbrev pub form_climb : NormalForm → ℕ
form_climb form = form.climb

-- the names of a form
abbrev pub form_names : NormalForm → List (List ℕ)
form_names form = map (span_text (form_sources form)) form.names.items

-- the components that a form stands for
abbrev pub form_steps : NormalForm → List Step
form_steps form = ups_then_names (form_climb form) (form_names form)

-- how many components the form stands for
abbrev pub form_len : NormalForm → ℕ
form_len form = form_climb form + vec_len form.names

-- how many names the table of the form has room for
abbrev pub form_room : NormalForm → ℕ
form_room form = vec_capacity form.names
