-- joins that an answer releases, as moves of the line of a label: nothing may be joined to a label whose join is released

use Rattle.std.proofs.Common.{◌≡◌, ℕ, ◌≤◌, ◌<◌, ◌+◌, Bool, true, false, List, [], ◌∷◌, length, Option, None, Some, refl, sym, ◌∙◌, ap, subst, arith, fold, map}
use Rattle.std.specs.Prelude.{◌^◌}
use Rattle.std.specs.Option.{option_and_then}
use Rattle.world_model.specs.Words.{PortNo, End, number_of_channel, Request, Part, at, leads_home, Setup, home_of, Grant, grant_label, Work, halts, label_at, is_spent, halts_if_spent, parted, given_back, Controller, Linked, linked_at, begins, join_of, joins_of, parts, releases_join, releases_input, released_inputs, resets_spent, releases}
use Rattle.law_label_events.specs.ordered_lists.Ordered.{Every}
use Rattle.law_label_events.proofs.law_port_facts.Keyed.{on_both}
use Rattle.law_label_events.proofs.law_port_facts.Found.{filter_passes}
use Rattle.law_label_events.proofs.law_port_facts.Instances.{closes_gave, parted_gave, given_back_gave}
use Rattle.law_label_events.specs.law_label_line.Cells.{Role}
use Rattle.law_label_events.proofs.law_label_steps.Joins.{given_back_leads, closes_lead}
use Rattle.law_label_events.specs.law_port_views.Link.{LinkLabel}
use Rattle.law_label_events.proofs.law_port_views.Answering.{parted_leads}
use Rattle.law_label_events.proofs.law_port_widths.Keeping.{found_grant}
use Rattle.law_label_events.proofs.law_port_widths.Rules.{given_back_fit}
use Rattle.world_model.specs.port_model.Grants as grants
use Rattle.world_model.specs.Controller.{Acted, ports_of, note}
use Rattle.world_model.specs.Joins.{Join}
use Rattle.law_label_events.specs.law_controller_facts.Sound.{IsSound}
use Rattle.law_label_events.proofs.law_controller_facts.Moves.{HasPorts, moves_ports}
use Rattle.law_label_events.proofs.law_controller_facts.Laws.{has_ports}
use Rattle.law_label_events.proofs.law_controller_facts.Flows.{says_in_range}
use Rattle.law_label_events.proofs.law_controller_facts.Joining.{IsJoin, granted_there, parts_grants, parts_goes, releases_input_goes, resets_spent_goes}
use Rattle.law_run_facts.specs.law_controller.Match.{lent_in, lent_at}
use Rattle.law_run_facts.proofs.law_controller.Matched.{shut_lent}
use Rattle.law_label_events.specs.law_controller_views.Ends.{EndLeads}
use Rattle.law_label_events.specs.law_controller_views.Lifted.{IsProper, IsReadableAction, IsLifted}
use Rattle.law_label_events.proofs.law_controller_views.Parts.{end_stays, end_then, quiet_leads}
use Rattle.law_label_events.proofs.law_controller_views.Works.{quiet_note, leads_fold}
use Rattle.law_label_events.proofs.law_controller_views.AtPort.{at_port_leads}
use Rattle.law_label_events.specs.law_controller_views.Ready.{IsReady, FitsLink}
use Rattle.law_label_events.proofs.law_controller_lifts.Lifts.{readable_all, joined_says}
use Rattle.law_label_events.proofs.law_controller_lifts.Kept.{Goes}
use Rattle.law_label_events.proofs.law_controller_lifts.Ready.{Fits}
use Rattle.law_label_events.proofs.law_controller_lifts.Releasing.{IsSteady, ready_steady, steady_on, steady_work, steady_fits, given_back_fits, found_join, parts_fit, input_fits, inputs_fit, ports_fit, released_ready}
use Rattle.law_lasting_joins.proofs.Lent.{Keeps, itself, keeps_on, found_input, input_keeps, spent_keeps}
use Rattle.law_label_worlds.proofs.Drawn.{releases_small}

module _ (setups : List Setup) (link : LinkLabel) (proper : IsProper link) (fit : FitsLink link) (like : Type 0) (role : Role) where
  abbrev pub To : Acted → Acted → Type 0
  To a b = EndLeads link like role a [] b []

  -- *Each rule*
  parted_lifted : (a : Acted) (q : PortNo) (number : ℕ) → IsLifted link like role a q (λ setup desk w. parted w number)
  parted_lifted a q number = record {
    drawn = λ linked found. (let same = parted_gave a.numbers.instances (begins a linked) number refl in omega (arith, same));
    reads = λ linked found same. joined_says (link.address role) (begins a linked) None (label_at linked.port number) tt;
    leads = λ linked found same queued. parted_leads link like queued role (begins a linked) number;
  }

  given_lifted : (a : Acted) → IsSteady setups a.controller → (q : PortNo) (grant : Grant)
      → ((linked : Linked) → linked_at a.controller q ≡ Some linked → at grant_label grant.label linked.port.grants ≡ Some grant)
      → (q ≡ link.port role → grant.label ≡ link.label → like → ⊥) → IsLifted link like role a q (λ setup desk w. given_back w grant)
  given_lifted a h q grant granted unlike = record {
    drawn = λ linked found. (let same = given_back_gave a.numbers.instances (begins a linked) grant refl in omega (arith, same));
    reads = λ linked found same. (let f = (steady_fits setups a h q linked found).1 in
        readable_all (link.address role) (given_back (begins a linked) grant).actions (fit role)
        (says_in_range.given_back setups linked.setup (begins a linked) grant (granted linked found) (steady_work setups a h q linked found))
        (given_back_fit (begins a linked) grant (found_grant (begins a linked) grant.label grant (granted linked found) f) f).said);
    leads = λ linked found same queued. given_back_leads link like queued proper.label role (begins a linked) grant (granted linked found) (unlike same);
  }

  closes_lifted : (a : Acted) (q : PortNo) → IsLifted link like role a q (λ setup desk w. halts_if_spent w)
  closes_lifted a q = record {
    drawn = λ linked found. (let same = closes_gave a.numbers.instances (begins a linked) refl in omega (arith, same));
    reads = λ linked found same. on_both (λ (w : Work). Every (IsReadableAction (link.address role)) w.actions) (is_spent linked.port.session) (halts (begins a linked)) (begins a linked) (tt, tt) tt;
    leads = λ linked found same queued. closes_lead link like queued role (begins a linked);
  }

  module _ (request : Request) where
    abbrev pub Led : End → Type 0
    Led input = leads_home input (home_of input) request ≡ true

    abbrev pub Unled : End → Type 0
    Unled input = leads_home input (home_of input) request ≡ false

    -- *Tied*: while the switch is met, the label is lent to an input that isn't released, if anything may be joined to it
    pub record Lends (c : Controller) : Type 0 where
      pub input : End
      pub lent : lent_at c.ports (link.port role).0 link.label ≡ Some input
      pub unled : Unled input

    abbrev pub Tied : Acted → Type 0
    Tied a = a.controller.has_met ≡ true → like → Lends a.controller

    pub tied_on : (a b : Acted) → Keeps setups (link.port role).0 link.label Unled a b → Tied a → Tied b
    tied_on a b k t met l = (let x : Lends a.controller = t (k.met met) l in record { input = x.input; lent = k.lent met x.input x.unled x.lent; unled = x.unled })

    no_some : (x : End) → None ≡ Some x → ⊥
    no_some x e = absurd (cc e)

    not_both : (x : End) → Led x → Unled x → ⊥
    not_both x e f = absurd (cc (sym e ∙ f))

    -- so nothing may be joined to a label whose join is released
    unlike : (a : Acted) (join : Join) → IsSound setups a.controller → Tied a → IsJoin setups a join → Led join.input → join.port ≡ link.port role → join.grant.label ≡ link.label → like → ⊥
    unlike a join sound t is led port label l = by a.controller.has_met refl
      where
        lent : lent_at a.controller.ports (link.port role).0 link.label ≡ Some join.input
        lent = subst (λ (p : PortNo). lent_at a.controller.ports p.0 link.label ≡ Some join.input) port
            (subst (λ (m : ℕ). lent_at a.controller.ports join.port.0 m ≡ Some join.input) label
            (ap (option_and_then (λ (x : Linked). lent_in x.port.grants join.grant.label)) is.found
            ∙ (ap (option_and_then (λ (g : Grant). grants.lent_input g.state)) is.granted ∙ is.input)))

        by : (b : Bool) → a.controller.has_met ≡ b → ⊥
        by true met =
            let x : Lends a.controller = t met l in
            let both : Some x.input ≡ Some join.input = sym x.lent ∙ lent in
            let one : x.input ≡ join.input = cc in
            not_both join.input led (subst Unled one x.unled)
        by false unmet = no_some join.input (sym (shut_lent a.controller.ports (link.port role).0 link.label (sound.unmet unmet)) ∙ lent)

    -- *Joins*, one after the other
    join_leads : (a : Acted) (e : End) (o : Option Join) → join_of a.controller e ≡ o → Led e → IsSteady setups a.controller → (releases_join a o).numbers.instances < 2 ^ 32 → Tied a → To a (releases_join a o)
    join_leads a e None found led h f t = end_stays link like role a []
    join_leads a e (Some join) found led h f t =
        let has : HasPorts setups a = has_ports setups a h.sound in
        let noted : Acted = note a (Part a.controller.node join.input.port (number_of_channel join.input.channel)) in
        let b : Acted = parts a join.input in
        let is : IsJoin setups a join = found_join setups a e join has found in
        let granted : (linked : Linked) → linked_at b.controller join.port ≡ Some linked → at grant_label join.grant.label linked.port.grants ≡ Some join.grant =
        λ linked there. granted_there setups a b join linked is (parts_grants setups a join.input join.port.0 has) there in
        let later : Goes Fits b (releases_join a (Some join)) = given_back_fits setups b join.port join.grant granted in
        let steady : IsSteady setups b.controller = steady_on setups a b (parts_goes setups a join.input has) (parts_fit setups a join.input) (omega (arith, f, later.rises)) h in
        end_then link like role a noted (releases_join a (Some join)) [] [] [] (quiet_leads link like role a noted [] (quiet_note link proper like role a (Part a.controller.node join.input.port (number_of_channel join.input.channel))))
        (end_then link like role noted b (releases_join a (Some join)) [] [] []
        (at_port_leads link proper like role noted join.input.port (λ setup desk w. parted w (number_of_channel join.input.channel)) (parted_lifted noted join.input.port (number_of_channel join.input.channel)))
        (at_port_leads link proper like role b join.port (λ setup desk w. given_back w join.grant)
        (given_lifted b steady join.port join.grant granted (unlike a join h.sound t is (subst Led (sym (found_input setups (link.port role).0 link.label Unled a e join found)) led)))))

    abbrev pub Kept : Acted → Acted → Type 0
    Kept a b = Keeps setups (link.port role).0 link.label Unled a b

    record IsReleased (a b : Acted) : Type 0 where
      leads : To a b
      sound : IsSound setups b.controller
      kept : Kept a b

    inputs_lead : (inputs : List End) (a : Acted) → Every Led inputs → IsSteady setups a.controller → (fold releases_input a inputs).numbers.instances < 2 ^ 32 → Tied a → IsReleased a (fold releases_input a inputs)
    inputs_lead [] a all h f t = record { leads = end_stays link like role a []; sound = h.sound; kept = itself setups (link.port role).0 link.label Unled a }
    inputs_lead (e ∷ inputs) a all h f t =
        let next : Acted = releases_input a e in
        let has : HasPorts setups a = has_ports setups a h.sound in
        let there : HasPorts setups next = moves_ports setups (releases_input_goes setups a e has) has in
        let later : Goes Fits next (fold releases_input next inputs) = inputs_fit setups inputs next there in
        let small : next.numbers.instances < 2 ^ 32 = omega (arith, f, later.rises) in
        let one : Kept a next = input_keeps setups (link.port role).0 link.label Unled a e (λ u. not_both e all.0 u) has in
        let rest : IsReleased next (fold releases_input next inputs) = inputs_lead inputs next all.1 (steady_on setups a next (releases_input_goes setups a e has) (input_fits setups a e has) small h) f (tied_on a next one t) in
        record {
          leads = end_then link like role a next (fold releases_input next inputs) [] [] [] (join_leads a e (join_of a.controller e) refl all.0 h small t) rest.leads;
          sound = rest.sound;
          kept = keeps_on setups (link.port role).0 link.label Unled a next (fold releases_input next inputs) one rest.kept;
        }

    -- *Ports whose numbers are spent*
    ports_kept : (ports : List PortNo) (a : Acted) → HasPorts setups a → Kept a (fold resets_spent a ports)
    ports_kept [] a h = itself setups (link.port role).0 link.label Unled a
    ports_kept (port ∷ ports) a h = keeps_on setups (link.port role).0 link.label Unled a (resets_spent a port) (fold resets_spent (resets_spent a port) ports)
        (spent_keeps setups (link.port role).0 link.label Unled a port h) (ports_kept ports (resets_spent a port) (moves_ports setups (resets_spent_goes setups a port h) h))

    -- *All of an answer*
    pub record AreReleased (a : Acted) : Type 0 where
      pub leads : To a (releases a request)
      pub ready : IsReady setups (releases a request).controller
      pub kept : Kept a (releases a request)

    pub releases_lead : (a : Acted) → IsReady setups a.controller → length a.controller.ports ≤ 8 → a.numbers.instances + 20 < 2 ^ 32 → Tied a → AreReleased a
    releases_lead a ready few left t =
        let inputs : List End = released_inputs a.controller request in
        let released : Acted = fold releases_input a inputs in
        let h : IsSteady setups a.controller = ready_steady setups a.controller ready in
        let small : (releases a request).numbers.instances < 2 ^ 32 = releases_small a request few left in
        let later : Goes Fits released (releases a request) = ports_fit setups (ports_of released.controller) released in
        let first : IsReleased a released = inputs_lead inputs a
        (filter_passes (λ (input : End). leads_home input (home_of input) request) (map (λ (join : Join). join.input) (joins_of a.controller))) h (omega (arith, small, later.rises)) t in
        record {
          leads = end_then link like role a released (releases a request) [] [] [] first.leads
              (leads_fold link proper like role resets_spent [] (λ b port. at_port_leads link proper like role b port (λ setup desk w. halts_if_spent w) (closes_lifted b port)) (ports_of released.controller) released);
          ready = released_ready setups a request small h;
          kept = keeps_on setups (link.port role).0 link.label Unled a released (releases a request) first.kept (ports_kept (ports_of released.controller) released (has_ports setups released first.sound));
        }
