-- the turn of an input: nothing is done, or the join of its label is entered at the grant and at the label, and asked for

use Rattle.std.proofs.Common.{◌≡◌, Bool, true, false, true≢false, length, Option, None, Some, refl, sym, ◌∙◌, ap, subst, if◌then◌else◌}
use Rattle.std.specs.Prelude.{◌&&◌, not, nat_lt, is_none}
use Rattle.world_model.specs.Words.{End, flow_destination, Label, is_offered, Controller, join_for, joins, label_on, may_join, most_asked, on_input, route_stays, tries_label, tries_join}
use Rattle.world_model.specs.Controller.{Acted}
use Rattle.world_model.specs.Joins.{Join}
use Rattle.law_port_facts.specs.ordered_lists.Ordered.{Every}
use Rattle.law_live_ports.proofs.Keeping.{HasApart}
use Rattle.law_live_mirrors.specs.Asking.{CanAsk}
use Rattle.law_live_joining.proofs.Found.{Found, both, found}
use Rattle.law_live_joining.proofs.Entering.{IsEntered, is_entered}

-- *The turn of an input*
pub record Entered (a b : Acted) (input : End) : Type 0 where
  pub label : Label
  pub there : label_on a.controller input ≡ Some label
  pub may : may_join a.controller input label ≡ true
  pub join : Join
  pub leads_on : join_for a.controller input label.flow ≡ Some join
  pub comes : Found a.controller input label.flow join
  pub entered : IsEntered a b input label comes.g comes.grant

pub data Turned (a : Acted) (input : End) : Acted → Type 0 where
  passed : ((label : Label) (join : Join) → label_on a.controller input ≡ Some label → may_join a.controller input label ≡ true → join_for a.controller input label.flow ≡ Some join → ⊥) → Turned a input a
  joins_one : (b : Acted) → Entered a b input → Turned a input b

-- what a label is that may be joined
pub record IsJoinable (label : Label) : Type 0 where
  pub offered : is_offered label.state ≡ true
  pub unjoined : label.join ≡ None

module _ (a : Acted) (input : End) (apart : Every HasApart a.controller.ports) (can : CanAsk a) where
  abbrev c : Controller
  c = a.controller

  pub joinable : (label : Label) → may_join c input label ≡ true → IsJoinable label
  joinable label may = by label.join refl
    where
      of_label : (is_offered label.state ≡ true) × (is_none label.join ≡ true)
      of_label = both (is_offered label.state) (is_none label.join) (both (is_offered label.state && is_none label.join)
          (not (on_input c.desk input) && (nat_lt (length c.desk.standing) most_asked && route_stays c (flow_destination label.flow))) may).0

      by : (o : Option End) → label.join ≡ o → IsJoinable label
      by None e = record { offered = of_label.0; unjoined = e }
      by (Some to) e = absurd (true≢false (sym of_label.1 ∙ ap (λ (x : Option End). is_none x) e))

  module _ (label : Label) (is : label_on c input ≡ Some label) where
    one_label : (x y : Label) → Some x ≡ Some y → x ≡ y
    one_label x y e = cc

    passed_by : (may_join c input label ≡ true → (join : Join) → join_for c input label.flow ≡ Some join → ⊥) → Turned a input a
    passed_by never = passed (λ l join there may e. never (subst (λ (x : Label). may_join c input x ≡ true) (one_label l label (sym there ∙ is)) may)
        join (subst (λ (x : Label). join_for c input x.flow ≡ Some join) (one_label l label (sym there ∙ is)) e))

    by_join : may_join c input label ≡ true → (o : Option Join) → join_for c input label.flow ≡ o → Turned a input (joins a o)
    by_join may None e = passed_by (λ t join f. cc (sym e ∙ f))
    by_join may (Some join) e =
        let f : Found c input label.flow join = found c apart input label.flow join e in
        joins_one (joins a (Some join)) (record {
          label = label;
          there = is;
          may = may;
          join = join;
          leads_on = e;
          comes = f;
          entered = subst (λ (j : Join). IsEntered a (joins a (Some j)) input label f.g f.grant) (sym f.is)
              (is_entered a input label is (joinable label may).unjoined f.g f.there f.grant f.granted f.own can);
        })

    by_may : (b : Bool) → may_join c input label ≡ b → Turned a input (if b then joins a (join_for c input label.flow) else a)
    by_may true may = by_join may (join_for c input label.flow) refl
    by_may false not_so = passed_by (λ may join e. true≢false (sym may ∙ not_so))

  by_label : (o : Option Label) → label_on c input ≡ o → Turned a input (tries_label a input o)
  by_label None is = passed (λ label join there may e. cc (sym is ∙ there))
  by_label (Some label) is = by_may label is (may_join c input label) refl

  pub turned : Turned a input (tries_join a input)
  turned = by_label (label_on c input) refl
