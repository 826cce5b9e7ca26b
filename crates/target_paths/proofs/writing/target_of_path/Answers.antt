use Rattle.std.proofs.Common.{◌≡◌, ◌∙◌, List, ℕ, length, ap, sym, subst, rules, string_bytes}
use Rattle.std.proofs.lemmas.Result.{IfOk-weaker}
use Rattle.std.specs.Str.{IsUtf8}
use Rattle.target_paths.specs.Reading.{path_before, unknown}
use Rattle.target_paths.specs.Writing.{IsTakenAs, path_written, spelling}
use Rattle.target_paths.specs.declared.target.WhyUnknown.TheVariants.{EncodedNul}
use Rattle.target_paths.proofs.RoundTripLemmas.{target_of-read, target_of-nul, target_of-whole, target_of-no_template, target_of-no_block}
use Rattle.target_paths.proofs.writing.target_of_path.Goals as goal

pub returns-clause-read : goal.returns-clause-read
returns-clause-read c =
    let path : List ℕ = c.args.path.now in
    let takes : List ℕ → Type 0 = λ bs. IsTakenAs bs (path_before (path_written path) (length bs)) in
    let utf8 : IsUtf8 (path_written path) = subst IsUtf8 c.path_written.ensures c.path_written.utf8 in
    λ none.
    IfOk-weaker c.spelling.result (λ target. string_bytes target ≡ spelling c.path_written.result.now)
    (λ target. takes (string_bytes target))
    (λ target is. subst takes (sym (is ∙ ap spelling c.path_written.ensures)) (target_of-read path utf8 none))
    c.spelling.ensures

pub returns-clause-nul : goal.returns-clause-nul
returns-clause-nul c =
    let path : List ℕ = c.args.path.now in
    let takes : List ℕ → Type 0 = λ bs. IsTakenAs bs (unknown EncodedNul) in
    λ some.
    IfOk-weaker c.spelling.result (λ target. string_bytes target ≡ spelling c.path_written.result.now)
    (λ target. takes (string_bytes target))
    (λ target is. subst takes (sym (is ∙ ap spelling c.path_written.ensures)) (target_of-nul path some))
    c.spelling.ensures

pub returns-clause-whole : goal.returns-clause-whole
returns-clause-whole c = search (rules, target_of-whole)

pub returns-clause-start : goal.returns-clause-start
returns-clause-start c = search (rules, target_of-no_template)

pub returns-clause-block : goal.returns-clause-block
returns-clause-block c = search (rules, target_of-no_block)
