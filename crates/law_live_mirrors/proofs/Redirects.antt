-- a REDIRECT is taken: a grant is made, and its branch asked for, or it has its lifetime anew

use Rattle.std.proofs.Common.{◌≡◌, ℕ, ◌<◌, Bool, true, false, List, [], ◌∷◌, ◌++◌, length, Option, None, Some, refl, sym, ◌∙◌, ap, subst, inl, inr, ◌⊎◌}
use Rattle.std.specs.Prelude.{◌&&◌, nat_le}
use Rattle.std.specs.Option.{option_map_or}
use Rattle.world_model.specs.Words.{End, Addr, Instance, FlowId, is_label_number, label_channel_of, label_number_of, number_of_channel, Request, AddBranch, Redirect, at, put, label_end, control_end, label_number, Grant, Idle, grant_label, is_leaving, most_grants, Session, Work, has_room, hears, Linked, begins, works_as, at_port}
use Rattle.world_model.specs.Controller.{Acted}
use Rattle.law_input_steps.specs.Asking.{concerns}
use Rattle.law_input_steps.proofs.Ends.{same_is}
use Rattle.law_live_labels.specs.Law.{accepted, left, makes_grant}
use Rattle.law_live_labels.proofs.Agreed.{grants_are_made, grants_are_refreshed}
use Rattle.law_live_mirrors.specs.Mirrors.{led_by, other_end, IsHeld}
use Rattle.law_live_mirrors.specs.Standing.{MayAsk}
use Rattle.law_live_mirrors.specs.Asking.{AsksMirrored, IsFree, Takes, GrantsKeepMirrors, RefreshesKeepMirrors}
use Rattle.law_live_mirrors.proofs.Ports.{leads_by, put_ports, put_alike, regranted, newly_granted, other_of_control}
use Rattle.law_live_mirrors.proofs.Nodes.{Worked, works_plain, works_ask, turn_none, turn_asks, at_port_is}
use Rattle.law_live_mirrors.proofs.Free.{free_asks}

in_range_number : (least greatest number : ℕ) → (is_label_number number && (nat_le least number && nat_le number greatest)) ≡ true → is_label_number number ≡ true
in_range_number least greatest number e = first (is_label_number number) (nat_le least number && nat_le number greatest) e
  where
    first : (x y : Bool) → (x && y) ≡ true → x ≡ true
    first true y e = refl
    first false y e = absurd (cc e)

module _ (a : Acted) (linked : Linked) (s : Session) (source : Addr) (sender peer : Instance) (number label lifetime : ℕ) (flow : FlowId)
    (takes : Takes a linked s source sender peer number label) where
  abbrev begun : Work
  begun = begins a linked

  is_number : is_label_number label ≡ true
  is_number = in_range_number linked.setup.least linked.setup.greatest label takes.taken.in_range

  -- the session has the same labels
  accepted_leads : (grants : List Grant) (input : End) → leads_by input (accepted begun s number grants) ≡ leads_by input linked.port
  accepted_leads grants input = sym (ap (λ (o : Option Session). led_by input (at label_number (number_of_channel input.channel) (option_map_or (λ (x : Session). x.labels) o []))) takes.taken.working.is_open)

  module _ (spare : at grant_label label linked.port.grants ≡ None) (few : length linked.port.grants < most_grants) (room : has_room a.controller.desk begun ≡ true)
      (free : IsFree a.controller.desk (control_end linked.setup.port label)) where
    abbrev new : Grant
    new = record { label = label; flow = flow; lifetime = lifetime; state = Idle }

    abbrev made : Work
    made = makes_grant linked.setup begun s number label lifetime flow

    abbrev input_of : End
    input_of = control_end linked.setup.port label

    abbrev request : Request
    request = AddBranch input_of (label_end linked.setup.port label)

    may_follow : (led : Option End) → IsHeld a.controller.ports input_of led → (led ≡ None) ⊎ (led ≡ Some (label_end linked.setup.port label))
    may_follow led held = elim (held.other refl) [
      | inl none ↦ inl none
      | inr other ↦ inr (other ∙ ap (λ (e : End). Some e) (other_of_control linked.setup.port label is_number))
    ]

    may_ask : (input : End) → concerns input request ≡ true → MayAsk a.controller.ports a.controller.desk request input
    may_ask input on = subst (MayAsk a.controller.ports a.controller.desk request) (sym (same_is input input_of on))
        (free_asks a.controller.ports a.controller.desk request input_of free may_follow)

    made_asks : AsksMirrored a (works_as a linked made) (request ∷ [])
    made_asks = by (works_ask a linked made request false takes.can refl)
      where
        by : Worked a (works_as a linked made) linked made.port (request ∷ []) → AsksMirrored a (works_as a linked made) (request ∷ [])
        by worked = turn_asks a (works_as a linked made) (put_ports a.controller.ports linked made.port) request worked.ports worked.desk tt may_ask
            (λ input away. put_alike a.controller.ports linked takes.there made.port input (λ same is. accepted_leads (linked.port.grants ++ new ∷ []) input)
            (λ same. newly_granted new linked.port.grants (label_number_of (other_end input).channel) spare refl))

    made_keeps : AsksMirrored a (at_port a linked.setup.port (λ setup desk w. hears setup desk w source (Redirect sender peer number lifetime (label_channel_of label) flow))) (request ∷ [])
    made_keeps = subst (λ (x : Acted). AsksMirrored a x (request ∷ [])) (sym (at_port_is a linked.setup.port (λ setup desk w. hears setup desk w source (Redirect sender peer number lifetime (label_channel_of label) flow)) linked takes.there
        ∙ ap (works_as a linked) (grants_are_made linked.setup a.controller.desk begun s source sender peer number label lifetime flow takes.taken spare few room))) made_asks

pub grants_keep_mirrors : GrantsKeepMirrors
grants_keep_mirrors a linked s source sender peer number label lifetime flow takes spare few room free =
    made_keeps a linked s source sender peer number label lifetime flow takes spare few room free

module _ (a : Acted) (linked : Linked) (s : Session) (source : Addr) (sender peer : Instance) (number lifetime : ℕ) (grant : Grant)
    (takes : Takes a linked s source sender peer number grant.label) (held : at grant_label grant.label linked.port.grants ≡ Some grant) (stays : is_leaving grant.state ≡ false) where
  abbrev refreshed : Grant
  refreshed = record grant { lifetime = lifetime }

  abbrev lasting : Work
  lasting = left (begins a linked) (accepted (begins a linked) s number (put grant_label refreshed linked.port.grants)) []

  lasting_asks : AsksMirrored a (works_as a linked lasting) []
  lasting_asks = by (works_plain a linked lasting tt)
    where
      by : Worked a (works_as a linked lasting) linked lasting.port [] → AsksMirrored a (works_as a linked lasting) []
      by worked = turn_none a (works_as a linked lasting) (put_ports a.controller.ports linked lasting.port) worked.ports worked.desk
          (λ input. put_alike a.controller.ports linked takes.there lasting.port input
          (λ same is. sym (ap (λ (o : Option Session). led_by input (at label_number (number_of_channel input.channel) (option_map_or (λ (x : Session). x.labels) o []))) takes.taken.working.is_open))
          (λ same. regranted grant refreshed linked.port.grants (label_number_of (other_end input).channel) held (λ own. refl)))

  lasting_keeps : AsksMirrored a (at_port a linked.setup.port (λ setup desk w. hears setup desk w source (Redirect sender peer number lifetime (label_channel_of grant.label) grant.flow))) []
  lasting_keeps = subst (λ (x : Acted). AsksMirrored a x []) (sym (at_port_is a linked.setup.port (λ setup desk w. hears setup desk w source (Redirect sender peer number lifetime (label_channel_of grant.label) grant.flow)) linked takes.there
      ∙ ap (works_as a linked) (grants_are_refreshed linked.setup a.controller.desk (begins a linked) s source sender peer number lifetime grant takes.taken held stays))) lasting_asks

pub refreshes_keep_mirrors : RefreshesKeepMirrors
refreshes_keep_mirrors a linked s source sender peer number lifetime grant takes held stays = lasting_keeps a linked s source sender peer number lifetime grant takes held stays
