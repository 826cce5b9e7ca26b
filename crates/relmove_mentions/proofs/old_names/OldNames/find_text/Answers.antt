-- A text that can't stand for a path doesn't. From the directory another one leads to no path, so what it leads to from the top
-- is all.
use Rattle.std.proofs.Common.{◌≡◌, IsSome, None, Some, ap, refl, subst, sym, true≢false, ◌∙◌}
use Rattle.std.specs.List.{list_any}
use Rattle.std.proofs.lemmas.Bool.{or_parts}
use Rattle.std.proofs.lemmas.Result.{IfOk-weaker}
use Rattle.relative_path.specs.Naming.{file_name_of}
use Rattle.relative_path.specs.RelativePath.{path_text}
use Rattle.relative_path.specs.Steps.{components, is_slash}
use Rattle.relmove_mentions.specs.NameHashes.{hash_of, last_three_hash, last_two_hash, two_hash}
use Rattle.relmove_mentions.specs.OldNames.{Finds, WithOthers, may_end_in}
use Rattle.relmove_mentions.specs.Written.{LeadsFromDirectory, LeadsFromTop}
use Rattle.relmove_mentions.proofs.OldNamesLemmas.{Finds-second, StandsFor-last, StandsFor-last_three, StandsFor-last_two}
use Rattle.relmove_mentions.specs.declared.bases.Base.{Base}
use Rattle.relmove_mentions.proofs.WrittenLemmas.{Finds-text, StandsFor-alone}
use Rattle.relmove_mentions.proofs.old_names.OldNames.find_text.Goals as goal

pub returns-then-not-may_stand : goal.returns-then-not-may_stand
returns-then-not-may_stand c = λ olds has old is_old (some, stands).
    let text = c.args.text.now in
    let (none, no_base) = or_parts (list_any is_slash text)
    (list_any (λ (base : Base). may_end_in c.args.self.now (two_hash base.name (Some (hash_of text)))) c.args.searched.directories.now)
    (sym c.may_stand.ensures ∙ c.if-not-may_stand.true) in
    true≢false
    (sym (StandsFor-alone olds c.args.self.now c.args.searched.file c.args.searched.directories.now text old has is_old
    c.args.searched.directories_same none stands)
    ∙ no_base)

pub returns-then-not-may_have_last : goal.returns-then-not-may_have_last
returns-then-not-may_have_last c = λ olds has old is_old (some, stands).
    let is_text : path_text c.new-path.result ≡ c.args.text.now = c.new-path.ensures ∙ c.in-Ok.ensures.cases.0 in
    let last = StandsFor-last olds c.args.self.now c.args.searched.file c.args.text.now c.in-Some.last.now old has is_old
    (rw is_text at (sym c.in-Some.ensures.text)) stands in
    true≢false (sym last.ending ∙ sym c.may_have_last.ensures ∙ c.if-not-may_have_last.true)

pub returns-then-not-may_end_in : goal.returns-then-not-may_end_in
returns-then-not-may_end_in c = λ olds has old is_old (some, stands).
    let is_text : path_text c.new-path.result ≡ c.args.text.now = c.new-path.ensures ∙ c.in-Ok.ensures.cases.0 in
    let two = StandsFor-last_two olds c.args.self.now c.args.searched.file c.args.text.now old has is_old stands in
    true≢false
    (sym two ∙ sym (ap (may_end_in c.args.self.now) (c.last_two_hash.ensures ∙ ap (λ t. last_two_hash (components t)) is_text))
    ∙ sym c.may_end_in.ensures ∙ c.if-not-may_end_in.true)

pub returns-then-not-may_end_in-2 : goal.returns-then-not-may_end_in-2
returns-then-not-may_end_in-2 c = λ olds has old is_old (some, stands).
    let is_text : path_text c.new-path.result ≡ c.args.text.now = c.new-path.ensures ∙ c.in-Ok.ensures.cases.0 in
    let three = StandsFor-last_three olds c.args.self.now c.args.searched.file c.args.text.now old has is_old stands in
    true≢false
    (sym three
    ∙ sym (ap (may_end_in c.args.self.now) (c.last_three_hash.ensures ∙ ap (λ t. last_three_hash (components t)) is_text))
    ∙ sym c.may_end_in-2.ensures ∙ c.if-not-may_end_in-2.true)

pub returns : goal.returns
returns c =
    let file = c.args.searched.file in
    let text = c.args.text.now in
    let is_text : path_text c.new-path.result ≡ c.args.text.now = c.new-path.ensures ∙ c.in-Ok.ensures.cases.0 in
    let named : IsSome (file_name_of (path_text c.new-path.result)) = subst IsSome c.in-Some.ensures.text refl in
    IfOk-weaker c.find_from_top.result _ _
    (λ found is olds has.
    let none : Finds olds (WithOthers c.args.others (LeadsFromDirectory olds file (path_text c.new-path.result))) None =
    rw c.in_default-2.is at (c.in_ok-old.ensures olds has) in
    Finds-text olds file c.args.others text found c.in-Ok.ensures.cases.1 (rw is_text at named)
    (Finds-second olds c.args.others (LeadsFromDirectory olds file text) (LeadsFromTop olds file text) found (rw is_text at none)
    (rw is_text at (is olds has)))) c.find_from_top.ensures
