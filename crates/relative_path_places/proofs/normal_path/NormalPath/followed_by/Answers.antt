-- The names are pushed onto the normal text.
use Rattle.std.proofs.Common.{◌≡◌, ◌∙◌, ◌++◌, ap, sym, subst}
use Rattle.relative_path.specs.Steps.{components, spell}
use Rattle.relative_path.specs.Normalizing.{IsNormalTextOf}
use Rattle.relative_path_places.specs.Views.{name_components}
use Rattle.relative_path_places.proofs.FrontTextLemmas.{pushed-empty, IsNormalTextOf-names}
use Rattle.relative_path_places.proofs.normal_path.NormalPath.followed_by.Goals as goal
use Rattle.relative_path_places.proofs.normal_path.NormalPath.followed_by.Goals.{In_ok-push, In_ok-push_components}

-- the text that was pushed first
is_front : (c : In_ok-push) → c.push.new.self.text ≡ c.args.self.now
is_front c =
    pushed-empty c.in_ok-path.path.text c.args.self.now c.push.new.self.text c.as_relative_path-front.ensures.normal
    c.in_ok-path.ensures.empty (rw c.as_relative_path-front.ensures.text at c.in_ok-push.ensures.ok)

-- the text with the names
is_normal : (c : In_ok-push_components) → c.push.new.self.text ≡ c.args.self.now
    → IsNormalTextOf (components c.args.self.now ++ name_components c.args.names) c.push_components.new.way.text
is_normal c is =
    IsNormalTextOf-names c.args.self.now c.push_components.new.way.text (name_components c.args.names)
    c.as_relative_path-front.ensures.normal c.as_relative_path-names.ensures.names
    c.in_ok-push_components.ensures.spelled
    ((rw c.as_relative_path-names.ensures.components at c.in_ok-push_components.ensures.components)
    ∙ ap (λ text. components text ++ name_components c.args.names) is)

pub push_components-requires : goal.push_components-requires
push_components-requires c =
    subst (λ text. text ≡ spell (components text)) (sym (is_front (goal.at.push_components-requires c).In_ok-push))
    c.as_relative_path-front.ensures.normal.spelled

pub invariant_of-result : goal.invariant_of-result
invariant_of-result c =
    let is = is_front (goal.at.invariant_of-result c).In_ok-push in
    (is_normal (goal.at.invariant_of-result c).In_ok-push_components is).normal_text

pub returns : goal.returns
returns c =
    is_normal (goal.at.returns c).In_ok-push_components (is_front (goal.at.returns c).In_ok-push)
