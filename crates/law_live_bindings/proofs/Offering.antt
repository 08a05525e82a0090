-- the branch of a label is made, and its first REDIRECT is said

use Rattle.std.proofs.Common.{◌≡◌, ◌≢◌, ℕ, ◌≤◌, ◌<◌, ◌+◌, false, true, List, [], ◌∷◌, ◌++◌, Some, refl, sym, ◌∙◌, ap, subst, ◌⊎◌, inl, inr}
use Rattle.std.specs.Prelude.{is_some}
use Rattle.live_model.specs.world_model.Words.{Bind, Instance, Peer, Side, label_number_of, label_channel_of, at, put, Setup, Label, Wiring, Offered, label_number, label_at, Grant, Session, Work, last_number, redirect}
use Rattle.live_model.specs.world_model.ifmp_wire.declared.message.Message.{Message}
use Rattle.live_model.specs.world_model.port_model.Answers.{done}
use Rattle.live_model.specs.world_model.port_model.Saying.{peer_instance}
use Rattle.live_model.specs.world_model.port_model.declared.action.Action.TheVariants.{Note, Say}
use Rattle.law_port_facts.proofs.ordered_lists.Every.{every_map}
use Rattle.law_port_facts.proofs.Keyed.{at_every, at_put_same, at_put_other, by_eq, put_order}
use Rattle.law_live_labels.specs.Law.{IsWired}
use Rattle.law_live_labels.proofs.Agreed.{in_range_number, labels_are_offered}
use Rattle.law_live_nodes.specs.Law.{told_by}
use Rattle.law_live_links.specs.Law.{EndOfLink, number_of, expected_of, IsRefresh, IsOf, IsToldAnew, working, left_by}
use Rattle.law_live_links.proofs.Resting.{end_in, by_session}
use Rattle.law_live_bindings.specs.Law.{IsNew, IsHeldOrNew, AreBinding, BindOn, label_branch, told_of, OffersKeepBinding}
use Rattle.law_live_bindings.proofs.Places.{put_each, put_some}
use Rattle.law_live_bindings.proofs.Leading.{FindsSame, lead_found, lead_more, told_more, told_last, told_before}
use Rattle.law_live_bindings.proofs.Resting.{labels_differ}

one_number : (m n : ℕ) → Some m ≡ Some n → m ≡ n
one_number m n e = cc

one_label : (x y : Label) → Some x ≡ Some y → x ≡ y
one_label x y e = cc

module _ (instances : ℕ) (setup : Setup) (side : Side Peer) (tally : ℕ) (s : Session) (grants : List Grant) (said : List Message) (other : EndOfLink) where
  abbrev one : EndOfLink
  one = end_in setup side tally s grants said

  module _ (binding : AreBinding one other) (label : Label) (held : at label_number label.number s.labels ≡ Some label) (wiring : label.state ≡ Wiring) (left : s.number < last_number) where
    abbrev offered : Label
    offered = record label { state = Offered }

    abbrev message : Message
    message = told_of one other label

    abbrev offering : Session
    offering = record s { labels = put label_number offered s.labels; number = s.number + 1 }

    abbrev said_then : List Message
    said_then = said ++ message ∷ []

    -- it is new
    its_new : IsHeldOrNew setup.timers other.setup other.port.grants said label → IsNew setup.timers other.setup other.port.grants said label
    its_new (inl h) = absurd (cc (sym wiring ∙ h.offered))
    its_new (inr new) = new

    new : IsNew setup.timers other.setup other.port.grants said label
    new = its_new (at_every label_number (IsHeldOrNew setup.timers other.setup other.port.grants said) label.number s.labels label binding.there.labels held)

    known : label_number_of (label_channel_of label.number) ≡ Some label.number
    known = in_range_number other.setup label.number new.in_range

    -- what is done doesn't turn on the port's range: take that of the other end
    abbrev with_its_range : Setup
    with_its_range = record setup { least = other.setup.least; greatest = other.setup.greatest }

    wired : IsWired with_its_range (working instances one) s label
    wired = record {
      working = record { of_link = binding.one_end.of_link; going = refl; is_open = refl };
      in_range = new.in_range;
      held = held;
      wiring = wiring;
      number_left = left;
    }

    abbrev offering_work : Instance → Work
    offering_work peer = record {
      port = record { adjacency = side; session = Some offering; grants = grants; redirects = tally };
      actions = Note (Bind setup.node setup.port label.number label.flow) ∷ Say (redirect setup label side.own.instance peer s.number) ∷ [];
      halted = false;
      instances = instances;
    }

    pub offer_made : done setup (working instances one) (label_branch setup label.number) ≡ offering_work other.port.adjacency.own.instance
    offer_made = labels_are_offered with_its_range (working instances one) s label wired
        ∙ ap (λ stored. offering_work (peer_instance (record side { stored = stored }))) binding.met.one_knows

    -- *Each label* is held or new
    pub its_own : IsNew setup.timers other.setup other.port.grants said_then offered
    its_own = record { young = new.young; in_range = new.in_range; ungranted = new.ungranted; comes = inr (refl, told_last label.number said message known) }

    others : (x : Label) → label_number x ≢ label_number offered → IsHeldOrNew setup.timers other.setup other.port.grants said x
        → IsHeldOrNew setup.timers other.setup other.port.grants said_then x
    others x differs (inl h) = inl (record {
      offered = h.offered;
      told = h.told;
      in_range = h.in_range;
      grant = h.grant;
      granted = h.granted;
      same_flow = h.same_flow;
      stays = h.stays;
      lives = by h.lives;
    })
      where
        by : (setup.timers.lifetime ≤ h.grant.lifetime + x.ticks) ⊎ IsToldAnew x.number said → (setup.timers.lifetime ≤ h.grant.lifetime + x.ticks) ⊎ IsToldAnew x.number said_then
        by (inl lives) = inl lives
        by (inr told) = inr (told_more x.number said (message ∷ []) told)
    others x differs (inr n) = inr (record { young = n.young; in_range = n.in_range; ungranted = n.ungranted; comes = by n.comes })
      where
        of_another : IsOf x.number message → ⊥
        of_another of_it = differs (sym (one_number label.number x.number (sym known ∙ of_it)))

        by : ((x.state ≡ Wiring) × (IsToldAnew x.number said → ⊥)) ⊎ ((x.state ≡ Offered) × IsToldAnew x.number said)
            → ((x.state ≡ Wiring) × (IsToldAnew x.number said_then → ⊥)) ⊎ ((x.state ≡ Offered) × IsToldAnew x.number said_then)
        by (inl wires) = inl (wires.0, λ told. wires.1 (told_before x.number said message of_another told))
        by (inr tells) = inr (tells.0, told_more x.number said (message ∷ []) tells.1)

    -- *What is on its way* leads on
    finds : (x : Label) → at label_number x.number s.labels ≡ Some x → FindsSame offering.labels x
    finds x found = by_eq label.number x.number
        (λ same t. record {
          found = offered;
          there = ap (λ k. at label_number k offering.labels) (sym same) ∙ at_put_same label_number offered s.labels label held;
          same_flow = ap (λ (l : Label). l.flow) (one_label label x (sym held ∙ (ap (λ k. at label_number k s.labels) same ∙ found)));
        })
        (λ differs t. record { found = x; there = at_put_other label_number offered x.number s.labels differs ∙ found; same_flow = refl })

    refresh : IsRefresh side.own other.port.adjacency.own setup.timers offering.labels s.number message
    refresh = record { label = offered; held = at_put_same label_number offered s.labels label held; number_left = left; is = refl }

    one_more : (messages : List Message) → messages ++ message ∷ [] ≡ [] → ⊥
    one_more [] e = absurd (cc e)
    one_more (first ∷ messages) e = absurd (cc e)

    pub offered_binding : AreBinding (end_in setup side tally offering grants said_then) other
    offered_binding = record {
      met = binding.met;
      one_end = record {
        of_link = binding.one_end.of_link;
        in_session = refl;
        labels_apart = put_order label_number (λ m n. m < n) offered s.labels binding.one_end.labels_apart;
        grants_apart = binding.one_end.grants_apart;
        refreshes = binding.one_end.refreshes;
        in_time = binding.one_end.in_time;
        counted = binding.one_end.counted;
      };
      other_end = binding.other_end;
      there = record {
        numbers = lead_more side.own other.port.adjacency.own setup.timers offering.labels (expected_of other.port) s.number said message
            (lead_found side.own other.port.adjacency.own setup.timers s.labels offering.labels finds (expected_of other.port) s.number said binding.there.numbers) refresh;
        labels = put_each label_number (IsHeldOrNew setup.timers other.setup other.port.grants said) (IsHeldOrNew setup.timers other.setup other.port.grants said_then) offered s.labels
            (inr its_own) others (labels_differ s.labels binding.one_end.labels_apart) binding.there.labels;
        grants = every_map (λ (grant : Grant). is_some (at label_number grant.label s.labels) ≡ true) (λ (grant : Grant). is_some (at label_number grant.label offering.labels) ≡ true) other.port.grants
            (λ grant given. put_some label_number offered grant.label s.labels label held given) binding.there.grants;
        heard = inr (one_more said);
      };
      back = record { numbers = binding.back.numbers; labels = binding.back.labels; grants = binding.back.grants; heard = binding.back.heard };
    }

    pub offer_on : BindOn one other (done setup (working instances one) (label_branch setup label.number)) (λ actions. told_by actions ≡ message ∷ [])
    offer_on = record {
      going = ap (λ (w : Work). w.halted) offer_made;
      acts = ap (λ (w : Work). told_by w.actions) offer_made;
      binding = subst (λ (w : Work). AreBinding (left_by one w) other) (sym offer_made) offered_binding;
    }

pub offers_keep_binding : OffersKeepBinding
offers_keep_binding instances one other label binding held wiring left =
    by_session (λ (x : EndOfLink). AreBinding x other → label_at x.port label.number ≡ Some label → number_of x.port < last_number
    → BindOn x other (done x.setup (working instances x) (label_branch x.setup label.number)) (λ actions. told_by actions ≡ told_of x other label ∷ []))
    (λ setup side tally s grants said b h l. offer_on instances setup side tally s grants said other b label h wiring l)
    one binding.one_end.in_session binding held left
