-- at rest a switch leads an input that is joined where it is joined to

use Rattle.std.proofs.Common.{◌≡◌, List, [], filter, Option, None, Some, refl, sym, ◌∙◌, ap, subst, if◌then◌else◌}
use Rattle.std.specs.Option.{option_map, option_or, option_and_then}
use Rattle.world_model.specs.Words.{Down, End, Mark, Frame, FlowId, default_channel, Standing, home_of, Label, LabelState, Wiring, Offered, Recalled, Wired, is_offered, label_on, Site}
use Rattle.world_model.specs.crossbar_model.Crossbar.{output_of}
use Rattle.world_model.specs.Joins.{output_joined}
use Rattle.world_model.specs.switch_model.declared.request.Asked.{Asked}
use Rattle.law_input_steps.specs.Asking.{concerns}
use Rattle.law_live_brought.proofs.law_live_hearing.Sites.{queue_of_site}
use Rattle.law_live_brought.specs.law_live_orders.Law.{last_marks}
use Rattle.law_live_brought.specs.law_live_mirrors.Mirrors.{led_in, led_by, IsHeld, IsBelievedBy, Mirrors}
use Rattle.law_live_brought.specs.law_live_mirrored_worlds.Way.{AreAsked, none, asking, passed, requests_of, IsMirroredSite}
use Rattle.law_live_joining.specs.Joins.{joined_label}
use Rattle.law_live_joining_beats.specs.Law.{SwitchesLead}

one_site : (x y : Site) → Some x ≡ Some y → x ≡ y
one_site x y e = cc

one_pair : (x y : FlowId × End) → Some x ≡ Some y → x ≡ y
one_pair x y e = cc

-- nothing is asked where nothing waits
none_asked : (frames : List Frame) (marks : List Mark) (way : List Asked) → marks ≡ [] → AreAsked frames marks way → way ≡ []
none_asked frames marks way e none = refl
none_asked frames marks way e (asking mark asked is later) = absurd (cc e)
none_asked frames marks way e (passed mark is later) = absurd (cc e)

-- a label that is joined leads there
led_joined : (input : End) (flow : FlowId) (output : End) (o : Option Label) → option_and_then joined_label o ≡ Some (flow, output) → led_by input o ≡ Some output
led_joined input flow output None e = absurd (cc e)
led_joined input flow output (Some label) e = by label.state e
  where
    pair : End → FlowId × End
    pair x = (label.flow, x)

    to : (o : Option End) → option_map pair o ≡ Some (flow, output) → option_or o (Some (home_of input)) ≡ Some output
    to None f = absurd (cc f)
    to (Some x) f = ap (λ (y : End). Some y) (ap (λ (p : FlowId × End). p.1) (one_pair (label.flow, x) (flow, output) f))

    by : (state : LabelState) → (if is_offered state then option_map pair label.join else None) ≡ Some (flow, output) → led_in input label state ≡ Some output
    by Wiring f = absurd (cc f)
    by Offered f = to label.join f
    by (Recalled last acknowledged) f = absurd (cc f)
    by Wired f = absurd (cc f)

pub switches_lead : SwitchesLead
switches_lead w node site flow join found mirrored empty nothing labels held = mirrors_now.label labels ∙ led_joined join.input flow (output_joined join) (label_on site.controller join.input) held.joined
  where
    m : IsMirroredSite w.notes.frames site mirrored.way
    m = subst (λ (s : Site). IsMirroredSite w.notes.frames s mirrored.way) (one_site mirrored.by.site site (sym mirrored.by.found ∙ found)) mirrored.by.mirrored

    no_marks : last_marks default_channel site.controller.queue ≡ []
    no_marks = ap (last_marks default_channel) (sym (queue_of_site w node site (Down node) found) ∙ empty)

    no_way : mirrored.way ≡ []
    no_way = none_asked w.notes.frames (last_marks default_channel site.controller.queue) mirrored.way no_marks m.waits

    believed : Mirrors site.controller.ports site.controller.desk site.switch.crossbar.branches [] join.input
    believed = subst (λ (way : List Asked). Mirrors site.controller.ports site.controller.desk site.switch.crossbar.branches (requests_of way) join.input) no_way (m.mirrors join.input)

    mirrors_now : IsHeld site.controller.ports join.input (output_of site.switch.crossbar.branches join.input)
    mirrors_now = subst (λ (standing : List Standing). IsBelievedBy site.controller.ports join.input (filter (λ (s : Standing). concerns join.input s.request) standing) (output_of site.switch.crossbar.branches join.input)) nothing believed
