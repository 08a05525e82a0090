-- while a controller acts, the lists keep what holds of them

use Rattle.std.proofs.Common.{◌≡◌, ◌≢◌, ℕ, ◌<◌, ◌≤◌, ◌+◌, ◌*◌, Bool, true, false, true≢false, List, [], ◌∷◌, ◌++◌, map, length, Option, None, Some, refl, sym, ◌∙◌, ap, ap₂, subst, arith, append-nil, append_assoc, ◌⊎◌, inl, inr, if◌then◌else◌}
use Rattle.std.specs.Prelude.{◌||◌, ◌/◌, ◌%◌, nat_le, nat_eq, is_some}
use Rattle.std.proofs.lemmas.Bool.Decides.{nat_tests}
use Rattle.law_cell_lists.specs.world_model.Words.{NodeId, PortNo, Place, Down, Up, Out, Channel, Mark, channel_on_control, label_channel_of, label_number_of, is_label_number, is_label_channel, Cell, Entry, Broken, PoolFull, Cut, Record, Loss, Journal, noted, Reassembly, nothing_taken, cut, frame_cells, made, at, put, Controller, LabelChain, Linked, port_key, linked_at, chain_of, chains_with, default_channel, cuts_of, cuts_label, cuts_default_of, cuts_default, ForGsmp, port_on, on_link, same_channel, taker_at, on_channel}
use Rattle.law_cell_lists.specs.world_model.frame_model.Sending.{Sender}
use Rattle.law_controller_bindings.specs.ordered_lists.Ordered.{Every}
use Rattle.law_controller_bindings.proofs.ordered_lists.Every.{every_join, every_map}
use Rattle.law_cell_lists.specs.world_model.port_model.Port.{Port}
use Rattle.law_controller_bindings.proofs.law_port_facts.Keyed.{by_eq, on_both, at_key, at_put_same}
use Rattle.law_cell_lists.specs.world_model.Controller.{Acted, free_slots, note}
use Rattle.law_cell_lists.specs.world_model.Sending.{with_cells, sends}
use Rattle.law_cell_lists.specs.Causes.{bare}
use Rattle.law_cell_lists.proofs.Frames.{IsWhole, whole_frame}
use Rattle.law_cell_lists.proofs.Taking.{cut_grows}
use Rattle.law_cell_lists.proofs.Net.{End, Takes, Leads, Closed}
use Rattle.law_cell_lists.proofs.Real.{Shown, AreApart, IsReal, Clashes, Toggles, stays_so, opens_now, closes_now, real_grown, feeds_or_clashes, real_sends, real_cuts, real_toggles}
use Rattle.law_causes.proofs.Sizes.{HasLength}
use Rattle.law_causes.proofs.Calm.{IsCalm}
use Rattle.law_causes.proofs.Rules.{IsNamed, IsAlike, Kept}
use Rattle.law_controller_bindings.proofs.law_controller.world_model.net_types.Labels.{label_number_of-label_channel_of}
use Rattle.law_causes.proofs.Spots.{Spot, same_spot, same_number, yields, home, down, up, channels_are, channels_apart, on_join, on_all, on_none, IsOn, frame_on}
use Rattle.law_causes.proofs.Ends.{has_cells, label_chain, chain_at, chain_in, open_in, end_for, end_in, nothing_is, put_same, taken_by_port, chain_here, chain_there, label_link, control_parts, parts_of_control}

abbrev pub Seen : Type 0
Seen = Shown same_spot yields home

-- entries of other causes than Broken
abbrev pub AreOthers : List Entry → Type 0
AreOthers entries = Every (λ (e : Entry). e.cause ≢ Broken) entries

pub record GrownBy (old new : List Entry) : Type 0 where
  pub more : List Entry
  pub is : new ≡ old ++ more
  pub others : AreOthers more

pub grown_by : (old middle more : List Entry) → GrownBy old middle → AreOthers more → GrownBy old (middle ++ more)
grown_by old middle more g others = record {
  more = g.more ++ more;
  is = ap (λ l. l ++ more) g.is ∙ append_assoc old g.more more;
  others = every_join (λ (e : Entry). e.cause ≢ Broken) g.more more g.others others;
}

abbrev pub picked : {A : Type 0} {j k : Spot} → (j ≡ k) ⊎ (j ≢ k) → A → A → A
picked (inl _) x y = x
picked (inr _) x y = y

pub picked_cases : {A : Type 0} (P : A → Type 0) {j k : Spot} (d : (j ≡ k) ⊎ (j ≢ k)) (x y : A) → (j ≡ k → P x) → (j ≢ k → P y) → P (picked d x y)
picked_cases P (inl e) x y f g = f e
picked_cases P (inr n) x y f g = g n

pub end_or : (b : Bool) (r : Reassembly) (o : Spot) (u : Option Mark) → ◌≢◌ {A = End same_spot} (if b then Takes r else Closed) (Leads o u)
end_or true r o u e = cc e
end_or false r o u e = cc e

module _ (n : NodeId) (b : Spot → Seen) where
  -- *What is shown*: the node's queue to its switch, and what takes its channels, are the controller's
  abbrev pub seen_at : Place → Spot → List Cell → Reassembly → List Linked → Seen
  seen_at (Down m) s queue r ports = if nat_eq m.0 n.0 then record (b s) { cells = on_channel s.channel queue } else b s
  seen_at (Up m) s queue r ports = if nat_eq m.0 n.0 then record (b s) { end = end_in r ports s.channel } else b s
  seen_at (Out m p) s queue r ports = b s

  abbrev pub seen : List Cell → Reassembly → List Linked → Spot → Seen
  seen queue r ports s = seen_at s.place s queue r ports

  module _ (first : Spot → List Cell) (chains : Channel → Reassembly) (start : List Entry) (apart : AreApart same_spot yields home b) where
    node_is : (m : NodeId) → m.0 ≡ n.0 → m ≡ n
    node_is m e = ap (λ (x : ℕ). record { 0 = x }) e

    pub seen_cells : (s : Spot) (q d : List Cell) (r t : Reassembly) (p o : List Linked) → (s.place ≡ Down n → on_channel s.channel d ≡ on_channel s.channel q) → (seen d t o s).cells ≡ (seen q r p s).cells
    seen_cells s q d r t p o same = by_place s.place refl
      where
        by_place : (place : Place) → s.place ≡ place → (seen_at place s d t o).cells ≡ (seen_at place s q r p).cells
        by_place (Down m) is = by_eq m.0 n.0
            (λ e u. ap (λ (v : Bool). (if v then record (b s) { cells = on_channel s.channel d } else b s).cells) u ∙ same (is ∙ ap (λ (x : NodeId). Down x) (node_is m e)) ∙ sym (ap (λ (v : Bool). (if v then record (b s) { cells = on_channel s.channel q } else b s).cells) u))
            (λ e u. ap (λ (v : Bool). (if v then record (b s) { cells = on_channel s.channel d } else b s).cells) u ∙ sym (ap (λ (v : Bool). (if v then record (b s) { cells = on_channel s.channel q } else b s).cells) u))
        by_place (Up m) is = by_eq m.0 n.0
            (λ e u. ap (λ (v : Bool). (if v then record (b s) { end = end_in t o s.channel } else b s).cells) u ∙ sym (ap (λ (v : Bool). (if v then record (b s) { end = end_in r p s.channel } else b s).cells) u))
            (λ e u. ap (λ (v : Bool). (if v then record (b s) { end = end_in t o s.channel } else b s).cells) u ∙ sym (ap (λ (v : Bool). (if v then record (b s) { end = end_in r p s.channel } else b s).cells) u))
        by_place (Out m port) is = refl

    pub seen_end : (s : Spot) (q d : List Cell) (r t : Reassembly) (p o : List Linked) → (s.place ≡ Up n → end_in t o s.channel ≡ end_in r p s.channel) → (seen d t o s).end ≡ (seen q r p s).end
    seen_end s q d r t p o same = by_place s.place refl
      where
        by_place : (place : Place) → s.place ≡ place → (seen_at place s d t o).end ≡ (seen_at place s q r p).end
        by_place (Down m) is = by_eq m.0 n.0
            (λ e u. ap (λ (v : Bool). (if v then record (b s) { cells = on_channel s.channel d } else b s).end) u ∙ sym (ap (λ (v : Bool). (if v then record (b s) { cells = on_channel s.channel q } else b s).end) u))
            (λ e u. ap (λ (v : Bool). (if v then record (b s) { cells = on_channel s.channel d } else b s).end) u ∙ sym (ap (λ (v : Bool). (if v then record (b s) { cells = on_channel s.channel q } else b s).end) u))
        by_place (Up m) is = by_eq m.0 n.0
            (λ e u. ap (λ (v : Bool). (if v then record (b s) { end = end_in t o s.channel } else b s).end) u ∙ same (is ∙ ap (λ (x : NodeId). Up x) (node_is m e)) ∙ sym (ap (λ (v : Bool). (if v then record (b s) { end = end_in r p s.channel } else b s).end) u))
            (λ e u. ap (λ (v : Bool). (if v then record (b s) { end = end_in t o s.channel } else b s).end) u ∙ sym (ap (λ (v : Bool). (if v then record (b s) { end = end_in r p s.channel } else b s).end) u))
        by_place (Out m port) is = refl

    own_node : nat_eq n.0 n.0 ≡ true
    own_node = grind (arith, nat_tests)

    pub down_here : (q : List Cell) (r : Reassembly) (p : List Linked) (channel : Channel) → (seen q r p (down n channel)).cells ≡ on_channel channel q
    down_here q r p channel = ap (λ (v : Bool). (if v then record (b (down n channel)) { cells = on_channel channel q } else b (down n channel)).cells) own_node

    pub up_here : (q : List Cell) (r : Reassembly) (p : List Linked) (channel : Channel) → (seen q r p (up n channel)).end ≡ end_in r p channel
    up_here q r p channel = ap (λ (v : Bool). (if v then record (b (up n channel)) { end = end_in r p channel } else b (up n channel)).end) own_node

    -- what leads anywhere did so before
    seen_leads : (q : List Cell) (r : Reassembly) (p : List Linked) (s o : Spot) (u : Option Mark) → (seen q r p s).end ≡ Leads o u → (b s).end ≡ Leads o u
    seen_leads q r p s o u = by_place s.place
      where
        by_place : (place : Place) → (seen_at place s q r p).end ≡ Leads o u → (b s).end ≡ Leads o u
        by_place (Down m) = on_both (λ (x : Seen). x.end ≡ Leads o u → (b s).end ≡ Leads o u) (nat_eq m.0 n.0) (record (b s) { cells = on_channel s.channel q }) (b s) (λ e. e) (λ e. e)
        by_place (Up m) = on_both (λ (x : Seen). x.end ≡ Leads o u → (b s).end ≡ Leads o u) (nat_eq m.0 n.0) (record (b s) { end = end_in r p s.channel }) (b s)
            (λ e. absurd (end_or (open_in p s.channel || has_cells (chain_in r p s.channel)) (chain_in r p s.channel) o u e)) (λ e. e)
        by_place (Out m port) = λ e. e

    pub seen_keeps : (q : List Cell) (r : Reassembly) (p : List Linked) (s : Spot) → ((m : NodeId) → s.place ≢ Up m) → (seen q r p s).end ≡ (b s).end
    seen_keeps q r p s away = by_place s.place refl
      where
        either : (v : Bool) → (if v then record (b s) { cells = on_channel s.channel q } else b s).end ≡ (b s).end
        either true = refl
        either false = refl

        by_place : (place : Place) → s.place ≡ place → (seen_at place s q r p).end ≡ (b s).end
        by_place (Down m) is = either (nat_eq m.0 n.0)
        by_place (Up m) is = absurd (away m is)
        by_place (Out m port) is = refl

    pub seen_apart : (q : List Cell) (r : Reassembly) (p : List Linked) → AreApart same_spot yields home (seen q r p)
    seen_apart q r p = record {
      once = λ j k o u v y z e f. apart.once j k o u v y z (seen_leads q r p j o u e) (seen_leads q r p k o v f);
      at_home = λ k o u y e. apart.at_home k o u y (seen_leads q r p k o u e);
      unled = λ j k u y e. apart.unled j k u y (seen_leads q r p j k u e);
    }

    -- *The state of the lists*
    pub record State (queue : List Cell) (r : Reassembly) (ports : List Linked) (entries : List Entry) : Type 0 where
      pub stretches : Spot → List Cell
      pub real : IsReal same_spot yields home entries stretches (seen queue r ports)
      pub since : (channel : Channel) → ((stretches (up n channel) ≡ first (up n channel)) × (chain_in r ports channel ≡ chains channel)) ⊎ ((stretches (up n channel) ≡ []) × (chain_in r ports channel ≡ nothing_taken))
      pub rest : (s : Spot) → s.place ≢ Up n → stretches s ≡ first s
      pub none : (channel : Channel) → has_cells (chain_in r ports channel) ≡ false → stretches (up n channel) ≡ []

    -- or cells wait in a list beside which another leads
    pub record Collides (queue : List Cell) : Type 0 where
      pub channel : Channel
      pub clashes : Clashes same_spot yields home b (down n channel)
      pub cell : Cell
      pub cells : List Cell
      pub wait : on_channel channel queue ≡ cell ∷ cells

    pub record Core (queue : List Cell) (r : Reassembly) (ports : List Linked) (entries : List Entry) : Type 0 where
      pub state : State queue r ports entries ⊎ Collides queue
      pub grown : GrownBy start entries

    pub record Phase (a : Acted) : Type 0 where
      pub core : Core a.controller.queue a.controller.reassembly a.controller.ports a.notes.entries
      pub named : IsNamed a.controller.adjacency
      pub node : a.controller.node ≡ n

    -- *More entries*
    grown_state : (queue : List Cell) (r : Reassembly) (ports : List Linked) (entries more : List Entry) → State queue r ports entries → State queue r ports (entries ++ more)
    grown_state queue r ports entries more h = record {
      stretches = h.stretches;
      real = real_grown same_spot yields home entries (entries ++ more) h.stretches (seen queue r ports) (record { more = more; is = refl }) h.real;
      since = h.since;
      rest = h.rest;
      none = h.none;
    }

    grown_core : (queue : List Cell) (r : Reassembly) (ports : List Linked) (entries more : List Entry) → AreOthers more → Core queue r ports entries → Core queue r ports (entries ++ more)
    grown_core queue r ports entries more others h = record {
      state = elim h.state [ inl s ↦ inl (grown_state queue r ports entries more s) | inr c ↦ inr c ];
      grown = grown_by start entries more h.grown others;
    }

    -- *A frame is sent*
    longer_collides : (queue more : List Cell) → Collides queue → Collides (queue ++ more)
    longer_collides queue more h = record {
      channel = h.channel;
      clashes = h.clashes;
      cell = h.cell;
      cells = h.cells ++ on_channel h.channel more;
      wait = on_join h.channel queue more ∙ ap (λ l. l ++ on_channel h.channel more) h.wait;
    }

    module _ (queue : List Cell) (r : Reassembly) (ports : List Linked) (entries : List Entry) (channel : Channel) (c : Cell) (frame : List Cell) (on : Every (IsOn channel) (c ∷ frame)) (whole : IsWhole (map bare (c ∷ frame))) where
      abbrev longer : List Cell
      longer = queue ++ c ∷ frame

      longer_here : (seen longer r ports (down n channel)).cells ≡ (seen queue r ports (down n channel)).cells ++ c ∷ frame
      longer_here = down_here longer r ports channel ∙ on_join channel queue (c ∷ frame) ∙ ap (λ l. on_channel channel queue ++ l) (on_all channel (c ∷ frame) on) ∙ ap (λ l. l ++ c ∷ frame) (sym (down_here queue r ports channel))

      longer_away : (s : Spot) → down n channel ≢ s → (seen longer r ports s).cells ≡ (seen queue r ports s).cells
      longer_away s d = seen_cells s queue longer r r ports ports (λ e. (
          let far : channel ≢ s.channel = λ f. d (ap₂ (λ (x : Place) (y : Channel). record { place = x; channel = y }) (sym e) f) in
          on_join s.channel queue (c ∷ frame) ∙ ap (λ l. on_channel s.channel queue ++ l) (on_none channel s.channel (c ∷ frame) far on) ∙ append-nil (on_channel s.channel queue)))

      sent_state : State queue r ports entries → State longer r ports entries ⊎ Collides longer
      sent_state h = elim (feeds_or_clashes same_spot yields home entries h.stretches (seen queue r ports) h.real (seen_apart queue r ports) (down n channel)) [
        | inl feeds ↦ inl (record {
          stretches = h.stretches;
          real = real_sends same_spot yields home entries h.stretches (seen queue r ports) (seen longer r ports) (down n channel) c frame h.real
              (λ j u e. (seen_apart queue r ports).unled j (down n channel) u refl e) feeds whole longer_here
              (seen_end (down n channel) queue longer r r ports ports (λ e. refl))
              (λ j d. (longer_away j d, seen_end j queue longer r r ports ports (λ e. refl), refl));
          since = h.since;
          rest = h.rest;
          none = h.none;
        })
        | inr clash ↦ inr (record {
          channel = channel;
          clashes = record {
            other = clash.other;
            to = clash.to;
            own = clash.own;
            others = clash.others;
            yields_not = clash.yields_not;
            yields_own = clash.yields_own;
            leads = seen_leads queue r ports (down n channel) clash.to clash.own clash.leads;
            leads_other = seen_leads queue r ports clash.other clash.to clash.others clash.leads_other;
          };
          cell = (head_of (on_channel channel queue)).0;
          cells = (head_of (on_channel channel queue)).1;
          wait = on_join channel queue (c ∷ frame) ∙ ap (λ l. on_channel channel queue ++ l) (on_all channel (c ∷ frame) on) ∙ (head_of (on_channel channel queue)).2;
        })
      ]
        where
          head_of : (xs : List Cell) → (x : Cell) × (ys : List Cell) × (xs ++ c ∷ frame ≡ x ∷ ys)
          head_of [] = (c, frame, refl)
          head_of (x ∷ xs) = (x, xs ++ c ∷ frame, refl)

      sent_core : Core queue r ports entries → Core longer r ports entries
      sent_core h = record { state = elim h.state [ inl s ↦ sent_state s | inr k ↦ inr (longer_collides queue (c ∷ frame) k) ]; grown = h.grown }

    sent_cells : (queue : List Cell) (r : Reassembly) (ports : List Linked) (entries : List Entry) (channel : Channel) (cells : List Cell) → Every (IsOn channel) cells → IsWhole (map bare cells) → Core queue r ports entries → Core (queue ++ cells) r ports entries
    sent_cells queue r ports entries channel [] on whole h = subst (λ (l : List Cell). Core l r ports entries) (sym (append-nil queue)) h
    sent_cells queue r ports entries channel (c ∷ frame) on whole h = sent_core queue r ports entries channel c frame on whole h

    sends_kept : (a : Acted) (channel : Channel) (mark : Mark) (payload : List ℕ) → HasLength payload → Phase a → Phase (sends a channel mark payload)
    sends_kept a channel mark payload size h = on_both (λ (s : Sender Controller). Phase (record a { controller = s.queues; notes = s.notes })) (nat_le (length (frame_cells channel mark payload)) (free_slots a.controller))
        (record { queues = with_cells a.controller (frame_cells channel mark payload); notes = made a.notes mark payload })
        (record { queues = a.controller; notes = noted (made a.notes mark payload) (Loss mark PoolFull) })
        (record {
          core = sent_cells a.controller.queue a.controller.reassembly a.controller.ports a.notes.entries channel (frame_cells channel mark payload) (frame_on channel mark payload) (whole_frame channel mark payload size.0 size.1) h.core;
          named = h.named;
          node = h.node;
        })
        (record {
          core = grown_core a.controller.queue a.controller.reassembly a.controller.ports a.notes.entries (record { mark = mark; cause = PoolFull } ∷ []) ((λ e. cc e), tt) h.core;
          named = h.named;
          node = h.node;
        })

    -- *Which channels are taken* changes
    toggles : (r : Reassembly) (begun : List Cell) (was now : Bool) → (has_cells r ≡ false → begun ≡ []) → Toggles same_spot yields home begun (end_for was r) (end_for now r)
    toggles r begun was now none = by_cells (has_cells r) refl was now
      where
        of_nothing : has_cells r ≡ false → (was now : Bool) → Toggles same_spot yields home begun (if was || false then Takes r else Closed) (if now || false then Takes r else Closed)
        of_nothing e true true = stays_so _ _ refl
        of_nothing e true false = subst (λ (x : Reassembly). Toggles same_spot yields home begun (Takes x) Closed) (sym (nothing_is r e)) (closes_now (none e))
        of_nothing e false true = subst (λ (x : Reassembly). Toggles same_spot yields home begun Closed (Takes x)) (sym (nothing_is r e)) (opens_now (none e))
        of_nothing e false false = stays_so _ _ refl

        of_some : (was now : Bool) → Toggles same_spot yields home begun (if was || true then Takes r else Closed) (if now || true then Takes r else Closed)
        of_some true true = stays_so _ _ refl
        of_some true false = stays_so _ _ refl
        of_some false true = stays_so _ _ refl
        of_some false false = stays_so _ _ refl

        by_cells : (v : Bool) → has_cells r ≡ v → (was now : Bool) → Toggles same_spot yields home begun (if was || v then Takes r else Closed) (if now || v then Takes r else Closed)
        by_cells true e was now = of_some was now
        by_cells false e was now = of_nothing e was now

    -- what each channel has made of its cells stays
    toggled_state : (queue : List Cell) (r t : Reassembly) (p o : List Linked) (entries : List Entry) → ((channel : Channel) → chain_in t o channel ≡ chain_in r p channel) → State queue r p entries → State queue t o entries
    toggled_state queue r t p o entries same h = record {
      stretches = h.stretches;
      real = real_toggles same_spot yields home entries h.stretches (seen queue r p) (seen queue t o) (λ s. seen_cells s queue queue r t p o (λ e. refl)) (λ s. by_place s s.place refl) h.real;
      since = λ channel. elim (h.since channel) [ inl both ↦ inl (both.0, same channel ∙ both.1) | inr both ↦ inr (both.0, same channel ∙ both.1) ];
      rest = h.rest;
      none = λ channel e. h.none channel (ap has_cells (sym (same channel)) ∙ e);
    }
      where
        at_up : (s : Spot) → s ≡ up n s.channel → Toggles same_spot yields home (h.stretches s) (end_in r p s.channel) (end_in t o s.channel)
        at_up s is = subst (λ (x : Reassembly). Toggles same_spot yields home (h.stretches s) (end_in r p s.channel) (end_for (open_in o s.channel) x)) (sym (same s.channel))
            (toggles (chain_in r p s.channel) (h.stretches s) (open_in p s.channel) (open_in o s.channel) (λ e. ap h.stretches is ∙ h.none s.channel e))

        by_place : (s : Spot) (place : Place) → s.place ≡ place → Toggles same_spot yields home (h.stretches s) (seen_at place s queue r p).end (seen_at place s queue t o).end
        by_place s (Down m) is = by_eq m.0 n.0
            (λ e u. subst (λ (v : Bool). Toggles same_spot yields home (h.stretches s) (if v then record (b s) { cells = on_channel s.channel queue } else b s).end (if v then record (b s) { cells = on_channel s.channel queue } else b s).end) (sym u) (stays_so _ _ refl))
            (λ e u. subst (λ (v : Bool). Toggles same_spot yields home (h.stretches s) (if v then record (b s) { cells = on_channel s.channel queue } else b s).end (if v then record (b s) { cells = on_channel s.channel queue } else b s).end) (sym u) (stays_so _ _ refl))
        by_place s (Up m) is = by_eq m.0 n.0
            (λ e u. subst (λ (v : Bool). Toggles same_spot yields home (h.stretches s) (if v then record (b s) { end = end_in r p s.channel } else b s).end (if v then record (b s) { end = end_in t o s.channel } else b s).end) (sym u)
            (at_up s (ap (λ (x : Place). record { place = x; channel = s.channel }) (is ∙ ap (λ (x : NodeId). Up x) (node_is m e)))))
            (λ e u. subst (λ (v : Bool). Toggles same_spot yields home (h.stretches s) (if v then record (b s) { end = end_in r p s.channel } else b s).end (if v then record (b s) { end = end_in t o s.channel } else b s).end) (sym u) (stays_so _ _ refl))
        by_place s (Out m port) is = stays_so _ _ refl

    -- *A channel is cut*
    module _ (queue : List Cell) (r t : Reassembly) (p o : List Linked) (notes : Journal) (channel : Channel) (x : Reassembly) (is : chain_in r p channel ≡ x) (cut_now : chain_in t o channel ≡ nothing_taken)
        (others : (c : Channel) → channel ≢ c → chain_in t o c ≡ chain_in r p c) (taken : (c : Channel) → open_in o c ≡ open_in p c) (h : State queue r p notes.entries) where
      abbrev cut_stretches : Spot → List Cell
      cut_stretches s = picked (same_spot (up n channel) s) [] (h.stretches s)

      abbrev cut_shown : Spot → Seen
      cut_shown s = picked (same_spot (up n channel) s) (record (seen queue r p s) { end = Takes nothing_taken }) (seen queue r p s)

      away_end : (s : Spot) → up n channel ≢ s → (seen queue t o s).end ≡ (seen queue r p s).end
      away_end s d = seen_end s queue queue r t p o (λ e. (
          let far : channel ≢ s.channel = λ f. d (ap₂ (λ (y : Place) (z : Channel). record { place = y; channel = z }) (sym e) f) in
          ap₂ end_for (taken s.channel) (others s.channel far)))

      end_was : has_cells x ≡ true → (seen queue r p (up n channel)).end ≡ Takes x
      end_was some = up_here queue r p channel ∙ ap (end_for (open_in p channel)) is ∙ ap (λ (v : Bool). if v then Takes x else Closed) (ap (λ (v : Bool). open_in p channel || v) some ∙ or_true (open_in p channel))
        where
          or_true : (v : Bool) → (v || true) ≡ true
          or_true true = refl
          or_true false = refl

      cut_real : has_cells x ≡ true → IsReal same_spot yields home (cut notes x).entries cut_stretches cut_shown
      cut_real some = real_cuts same_spot yields home notes h.stretches cut_stretches (seen queue r p) cut_shown (up n channel) x h.real (end_was some) (record { more = (cut_grows notes x).0; is = (cut_grows notes x).1 })
          (picked_cases (λ (y : Seen). y.cells ≡ (seen queue r p (up n channel)).cells) (same_spot (up n channel) (up n channel)) _ _ (λ e. refl) (λ d. refl))
          (picked_cases (λ (y : Seen). y.end ≡ Takes nothing_taken) (same_spot (up n channel) (up n channel)) _ _ (λ e. refl) (λ d. absurd (d refl)))
          (picked_cases (λ (y : List Cell). y ≡ []) (same_spot (up n channel) (up n channel)) _ _ (λ e. refl) (λ d. absurd (d refl)))
          (λ s d. (
            picked_cases (λ (y : Seen). y.cells ≡ (seen queue r p s).cells) (same_spot (up n channel) s) _ _ (λ e. absurd (d e)) (λ _. refl),
            picked_cases (λ (y : Seen). y.end ≡ (seen queue r p s).end) (same_spot (up n channel) s) _ _ (λ e. absurd (d e)) (λ _. refl),
            picked_cases (λ (y : List Cell). y ≡ h.stretches s) (same_spot (up n channel) s) _ _ (λ e. absurd (d e)) (λ _. refl),
          ))

      now_end : (v : Bool) → open_in o channel ≡ v → Toggles same_spot yields home [] (Takes nothing_taken) (seen queue t o (up n channel)).end
      now_end v e = subst (λ (y : End same_spot). Toggles same_spot yields home [] (Takes nothing_taken) y) (sym (up_here queue t o channel ∙ ap₂ end_for e cut_now)) (by v)
        where
          by : (v : Bool) → Toggles same_spot yields home [] (Takes nothing_taken) (end_for v nothing_taken)
          by true = stays_so _ _ refl
          by false = closes_now refl

      toggle : (s : Spot) → Toggles same_spot yields home (cut_stretches s) (cut_shown s).end (seen queue t o s).end
      toggle s = by (same_spot (up n channel) s)
        where
          by : (d : (up n channel ≡ s) ⊎ (up n channel ≢ s)) → Toggles same_spot yields home (picked d [] (h.stretches s)) (picked d (record (seen queue r p s) { end = Takes nothing_taken }) (seen queue r p s)).end (seen queue t o s).end
          by (inl e) = subst (λ (y : Spot). Toggles same_spot yields home [] (Takes nothing_taken) (seen queue t o y).end) e (now_end (open_in o channel) refl)
          by (inr d) = stays_so _ _ (away_end s d)

      cut_some : has_cells x ≡ true → State queue t o (cut notes x).entries
      cut_some some = record {
        stretches = cut_stretches;
        real = real_toggles same_spot yields home (cut notes x).entries cut_stretches cut_shown (seen queue t o)
            (λ s. seen_cells s queue queue r t p o (λ e. refl) ∙ sym (picked_cases (λ (y : Seen). y.cells ≡ (seen queue r p s).cells) (same_spot (up n channel) s) _ _ (λ e. refl) (λ d. refl)))
            toggle (cut_real some);
        since = λ c. elim (same_spot (up n channel) (up n c)) [
          | inl e ↦ inr (here c e, ap (λ (s : Spot). chain_in t o s.channel) (sym e) ∙ cut_now)
          | inr d ↦ elim (h.since c) [
            | inl both ↦ inl (there c d ∙ both.0, others c (λ e. d (ap (up n) e)) ∙ both.1)
            | inr both ↦ inr (there c d ∙ both.0, others c (λ e. d (ap (up n) e)) ∙ both.1)
          ]
        ];
        rest = λ s away. picked_cases (λ (y : List Cell). y ≡ first s) (same_spot (up n channel) s) [] (h.stretches s) (λ e. absurd (away (ap (λ (z : Spot). z.place) (sym e)))) (λ d. h.rest s away);
        none = λ c e. elim (same_spot (up n channel) (up n c)) [
          | inl at ↦ here c at
          | inr d ↦ there c d ∙ h.none c (ap has_cells (sym (others c (λ f. d (ap (up n) f)))) ∙ e)
        ];
      }
        where
          here : (c : Channel) → up n channel ≡ up n c → cut_stretches (up n c) ≡ []
          here c e = picked_cases (λ (y : List Cell). y ≡ []) (same_spot (up n channel) (up n c)) [] (h.stretches (up n c)) (λ _. refl) (λ d. absurd (d e))

          there : (c : Channel) → up n channel ≢ up n c → cut_stretches (up n c) ≡ h.stretches (up n c)
          there c d = picked_cases (λ (y : List Cell). y ≡ h.stretches (up n c)) (same_spot (up n channel) (up n c)) [] (h.stretches (up n c)) (λ e. absurd (d e)) (λ _. refl)

      cut_none : has_cells x ≡ false → State queue t o (cut notes x).entries
      cut_none e = subst (State queue t o) (sym (ap (λ (y : Reassembly). (cut notes y).entries) (nothing_is x e)))
          (toggled_state queue r t p o notes.entries (λ c. elim (same_spot (up n channel) (up n c)) [
            | inl at ↦ (let is_c : channel ≡ c = ap (λ (s : Spot). s.channel) at in ap (chain_in t o) (sym is_c) ∙ cut_now ∙ sym (nothing_is x e) ∙ sym is ∙ ap (chain_in r p) is_c)
            | inr d ↦ others c (λ f. d (ap (up n) f))
          ]) h)

      cut_state : State queue t o (cut notes x).entries
      cut_state = by (has_cells x) refl
        where
          by : (v : Bool) → has_cells x ≡ v → State queue t o (cut notes x).entries
          by true e = cut_some e
          by false e = cut_none e

    cut_others : (notes : Journal) (x : Reassembly) → AreOthers (cut_grows notes x).0
    cut_others notes x = every_map (λ (e : Entry). e.cause ≡ Cut) (λ (e : Entry). e.cause ≢ Broken) (cut_grows notes x).0 (λ e is b. (let clash : Cut ≡ Broken = sym is ∙ b in cc clash)) (cut_grows notes x).2

    cut_grown : (notes : Journal) (x : Reassembly) → GrownBy start notes.entries → GrownBy start (cut notes x).entries
    cut_grown notes x g = subst (GrownBy start) (sym (cut_grows notes x).1) (grown_by start notes.entries (cut_grows notes x).0 g (cut_others notes x))

    cut_core : (queue : List Cell) (r t : Reassembly) (p o : List Linked) (notes : Journal) (channel : Channel) (x : Reassembly) → chain_in r p channel ≡ x → chain_in t o channel ≡ nothing_taken
        → ((c : Channel) → channel ≢ c → chain_in t o c ≡ chain_in r p c) → ((c : Channel) → open_in o c ≡ open_in p c) → Core queue r p notes.entries → Core queue t o (cut notes x).entries
    cut_core queue r t p o notes channel x is cut_now others taken h = record {
      state = elim h.state [ inl s ↦ inl (cut_state queue r t p o notes channel x is cut_now others taken s) | inr k ↦ inr k ];
      grown = cut_grown notes x h.grown;
    }

    -- and one that no channel shows
    unseen_core : (queue : List Cell) (r t : Reassembly) (p o : List Linked) (notes : Journal) (x : Reassembly) → ((c : Channel) → chain_in t o c ≡ chain_in r p c) → Core queue r p notes.entries → Core queue t o (cut notes x).entries
    unseen_core queue r t p o notes x same h = record {
      state = elim h.state [
        | inl s ↦ inl (subst (State queue t o) (sym (cut_grows notes x).1) (grown_state queue t o notes.entries (cut_grows notes x).0 (toggled_state queue r t p o notes.entries same s)))
        | inr k ↦ inr k
      ];
      grown = cut_grown notes x h.grown;
    }

    -- *A label's channel is cut*
    chain_if : (r : Reassembly) (p o : List Linked) (c : Channel) → (same_channel c default_channel ≡ false → chain_at (at port_key (port_on c).0 o) (on_link c) ≡ chain_at (at port_key (port_on c).0 p) (on_link c)) → chain_in r o c ≡ chain_in r p c
    chain_if r p o c same = by (same_channel c default_channel) refl
      where
        by : (v : Bool) → same_channel c default_channel ≡ v → (if v then r else chain_at (at port_key (port_on c).0 o) (on_link c)) ≡ (if v then r else chain_at (at port_key (port_on c).0 p) (on_link c))
        by true e = refl
        by false e = same e

    open_if : (p o : List Linked) (c : Channel) → is_some (taker_at (at port_key (port_on c).0 o) (on_link c)) ≡ is_some (taker_at (at port_key (port_on c).0 p) (on_link c)) → open_in o c ≡ open_in p c
    open_if p o c same = by (same_channel c default_channel)
      where
        by : (v : Bool) → is_some (if v then Some ForGsmp else taker_at (at port_key (port_on c).0 o) (on_link c)) ≡ is_some (if v then Some ForGsmp else taker_at (at port_key (port_on c).0 p) (on_link c))
        by true = refl
        by false = same

    module _ (ports : List Linked) (old : Linked) (found : at port_key (port_key old) ports ≡ Some old) where
      module _ (kept : List LabelChain) where
        abbrev rechained : Linked
        rechained = record old { chains = kept }

        rechained_open : (c : Channel) → open_in (put port_key rechained ports) c ≡ open_in ports c
        rechained_open c = open_if ports (put port_key rechained ports) c
            (put_same rechained old ports found (λ o. is_some (taker_at o (on_link c))) (port_on c).0 (λ e. taken_by_port rechained old (on_link c) refl))

        rechained_same : (r : Reassembly) (c : Channel) → ((m : ℕ) → label_number_of (on_link c) ≡ Some m → (port_on c).0 ≡ old.setup.port.0 → chain_of kept m ≡ chain_of old.chains m) → chain_in r (put port_key rechained ports) c ≡ chain_in r ports c
        rechained_same r c each = chain_if r ports (put port_key rechained ports) c (λ _. put_same rechained old ports found (λ o. chain_at o (on_link c)) (port_on c).0
            (λ e. by_default (same_channel (on_link c) default_channel) (by_number (label_number_of (on_link c)) refl (sym e))))
          where
            by_number : (v : Option ℕ) → label_number_of (on_link c) ≡ v → (port_on c).0 ≡ old.setup.port.0 → label_chain rechained v ≡ label_chain old v
            by_number None is e = refl
            by_number (Some m) is e = each m is e

            by_default : (v : Bool) → label_chain rechained (label_number_of (on_link c)) ≡ label_chain old (label_number_of (on_link c))
                → (if v then old.reassembly else label_chain rechained (label_number_of (on_link c))) ≡ (if v then old.reassembly else label_chain old (label_number_of (on_link c)))
            by_default true e = refl
            by_default false e = e

      module _ (label : ℕ) where
        abbrev emptied : List LabelChain
        emptied = chains_with old.chains label nothing_taken

        abbrev cut_channel : Channel
        cut_channel = channel_on_control old.setup.port (label_channel_of label)

        -- another label's chain stays
        unlike : (c : Channel) (m : ℕ) → label ≢ m → chain_of emptied m ≡ chain_of old.chains m
        unlike c m d = chain_there old.chains label m nothing_taken d

        label_is_link : (c : Channel) → label_number_of (on_link c) ≡ Some label → is_label_number label ≡ true
        label_is_link c e = (let l = label_link (on_link c) label e in ap is_label_channel (sym l.0) ∙ l.1)

        label_is_cut : (c : Channel) → label_number_of (on_link c) ≡ Some label → (port_on c).0 ≡ old.setup.port.0 → cut_channel ≡ c
        label_is_cut c e at_port =
            ap₂ (λ (q : ℕ) (l : Channel). channel_on_control (record { 0 = q }) l) (sym at_port) (sym (label_link (on_link c) label e).0) ∙ control_parts c

        fields : is_label_number label ≡ true → (label / 1024 < 16) × (32 ≤ label % 1024)
        fields e = (grind (arith, nat_tests), grind (arith, nat_tests))

        cut_is_label : is_label_number label ≡ true → (same_channel cut_channel default_channel ≡ false) × (same_channel (label_channel_of label) default_channel ≡ false)
        cut_is_label e = (channels_apart cut_channel default_channel (λ f. omega (arith, (fields e).1, ap (λ (x : Channel). x.vci) f)), channels_apart (label_channel_of label) default_channel (λ f. omega (arith, (fields e).1, ap (λ (x : Channel). x.vci) f)))

        -- what a port's chains are for its label
        chain_of_label : (linked : Linked) (r : Reassembly) (ps : List Linked) → is_label_number label ≡ true → at port_key old.setup.port.0 ps ≡ Some linked → chain_in r ps cut_channel ≡ chain_of linked.chains label
        chain_of_label linked r ps e is =
            let parts = parts_of_control old.setup.port (label_channel_of label) (fields e).0 in
            ap (λ (v : Bool). if v then r else chain_at (at port_key (port_on cut_channel).0 ps) (on_link cut_channel)) (cut_is_label e).0
            ∙ ap₂ (λ (q : ℕ) (l : Channel). chain_at (at port_key q ps) l) parts.0 parts.1
            ∙ ap (λ (o : Option Linked). chain_at o (label_channel_of label)) is
            ∙ ap (λ (v : Bool). if v then linked.reassembly else label_chain linked (label_number_of (label_channel_of label))) (cut_is_label e).1
            ∙ ap (label_chain linked) (number_back e)
          where
            number_back : is_label_number label ≡ true → label_number_of (label_channel_of label) ≡ Some label
            number_back e = label_number_of-label_channel_of label e

        pub cut_label_core : (queue : List Cell) (r : Reassembly) (notes : Journal) → Core queue r ports notes.entries → Core queue r (put port_key (record old { chains = chains_with old.chains label nothing_taken }) ports) (cut notes (chain_of old.chains label)).entries
        cut_label_core queue r notes h = by (is_label_number label) refl
          where
            by : (v : Bool) → is_label_number label ≡ v → Core queue r (put port_key (record old { chains = chains_with old.chains label nothing_taken }) ports) (cut notes (chain_of old.chains label)).entries
            by true e = cut_core queue r r ports (put port_key (rechained emptied) ports) notes cut_channel (chain_of old.chains label) (chain_of_label old r ports e found)
                (chain_of_label (rechained emptied) r (put port_key (rechained emptied) ports) e (at_put_same port_key (rechained emptied) ports old found) ∙ chain_here old.chains label nothing_taken)
                (λ c far. rechained_same emptied r c (λ m is at_port. unlike c m (λ same. far (label_is_cut c (is ∙ ap Some (sym same)) at_port))))
                (rechained_open emptied) h
            by false e = unseen_core queue r r ports (put port_key (rechained emptied) ports) notes (chain_of old.chains label)
                (λ c. rechained_same emptied r c (λ m is at_port. unlike c m (λ same. true≢false (sym (label_is_link c (is ∙ ap Some (sym same))) ∙ e)))) h

      -- *A default channel is cut*
      abbrev restarted_default : Linked
      restarted_default = record old { reassembly = nothing_taken }

      abbrev own_default : Channel
      own_default = channel_on_control old.setup.port default_channel

      default_open : (c : Channel) → open_in (put port_key restarted_default ports) c ≡ open_in ports c
      default_open c = open_if ports (put port_key restarted_default ports) c
          (put_same restarted_default old ports found (λ o. is_some (taker_at o (on_link c))) (port_on c).0 (λ e. taken_by_port restarted_default old (on_link c) refl))

      -- the other channels' chains stay
      default_same : (r : Reassembly) (c : Channel) → ((own_default ≡ c) → same_channel c default_channel ≡ false → ⊥) → chain_in r (put port_key restarted_default ports) c ≡ chain_in r ports c
      default_same r c apart_from = chain_if r ports (put port_key restarted_default ports) c (λ gsmp. put_same restarted_default old ports found (λ o. chain_at o (on_link c)) (port_on c).0
          (λ e. by_default (same_channel (on_link c) default_channel) refl gsmp (sym e)))
        where
          by_default : (v : Bool) → same_channel (on_link c) default_channel ≡ v → same_channel c default_channel ≡ false → (port_on c).0 ≡ old.setup.port.0
              → (if v then nothing_taken else label_chain old (label_number_of (on_link c))) ≡ (if v then old.reassembly else label_chain old (label_number_of (on_link c)))
          by_default false is gsmp e = refl
          by_default true is gsmp e = absurd (apart_from (ap₂ (λ (q : ℕ) (l : Channel). channel_on_control (record { 0 = q }) l) (sym e) (sym (channels_are (on_link c) default_channel is)) ∙ control_parts c) gsmp)

      chain_of_default : (linked : Linked) (r : Reassembly) (ps : List Linked) → old.setup.port.0 ≢ 0 → at port_key old.setup.port.0 ps ≡ Some linked → chain_in r ps own_default ≡ linked.reassembly
      chain_of_default linked r ps linked_port is =
          let parts = parts_of_control old.setup.port default_channel (omega arith) in
          ap (λ (v : Bool). if v then r else chain_at (at port_key (port_on own_default).0 ps) (on_link own_default)) (not_gsmp linked_port)
          ∙ ap₂ (λ (q : ℕ) (l : Channel). chain_at (at port_key q ps) l) parts.0 parts.1
          ∙ ap (λ (o : Option Linked). chain_at o default_channel) is
        where
          not_gsmp : old.setup.port.0 ≢ 0 → same_channel own_default default_channel ≡ false
          not_gsmp some = channels_apart own_default default_channel (λ f. some (zero_port old.setup.port.0 (ap (λ (x : Channel). x.vpi) f)))
            where
              zero_port : (q : ℕ) → 16 * q + 0 ≡ 0 → q ≡ 0
              zero_port q e = omega (arith, e)

      pub cut_default_core : (queue : List Cell) (r : Reassembly) (notes : Journal) → Core queue r ports notes.entries → Core queue r (put port_key (record old { reassembly = nothing_taken }) ports) (cut notes old.reassembly).entries
      cut_default_core queue r notes h = elim (same_number old.setup.port.0 0) [
        | inl none ↦ unseen_core queue r r ports (put port_key restarted_default ports) notes old.reassembly
            (λ c. default_same r c (λ is gsmp. true≢false (sym (ap (λ (x : Channel). same_channel x default_channel) (sym is) ∙ ap (λ (q : ℕ). same_channel (record { vpi = 16 * q + 0; vci = 15 }) default_channel) none) ∙ gsmp))) h
        | inr some ↦ cut_core queue r r ports (put port_key restarted_default ports) notes own_default old.reassembly (chain_of_default old r ports some found)
            (chain_of_default restarted_default r (put port_key restarted_default ports) some (at_put_same port_key restarted_default ports old found))
            (λ c far. default_same r c (λ is gsmp. far is)) default_open h
      ]

      -- *A port is put in its place*
      pub placed_core : (queue : List Cell) (r : Reassembly) (entries : List Entry) (port : Port) → Core queue r ports entries → Core queue r (put port_key (record old { port = port }) ports) entries
      placed_core queue r entries port h = record {
        state = elim h.state [
          | inl s ↦ inl (toggled_state queue r r ports (put port_key (record old { port = port }) ports) entries
              (λ c. chain_if r ports (put port_key (record old { port = port }) ports) c (λ _. put_same (record old { port = port }) old ports found (λ o. chain_at o (on_link c)) (port_on c).0 (λ e. refl))) s)
          | inr k ↦ inr k
        ];
        grown = h.grown;
      }

    -- *GSMP's channel is cut*
    cut_gsmp_core : (queue : List Cell) (r : Reassembly) (ports : List Linked) (notes : Journal) → Core queue r ports notes.entries → Core queue nothing_taken ports (cut notes r).entries
    cut_gsmp_core queue r ports notes h = cut_core queue r nothing_taken ports ports notes default_channel r refl refl
        (λ c far. ap (λ (v : Bool). if v then nothing_taken else chain_at (at port_key (port_on c).0 ports) (on_link c)) (channels_apart c default_channel (λ e. far (sym e)))
        ∙ sym (ap (λ (v : Bool). if v then r else chain_at (at port_key (port_on c).0 ports) (on_link c)) (channels_apart c default_channel (λ e. far (sym e)))))
        (λ c. refl) h

    -- *Each rule keeps it*
    own_found : (a : Acted) (port : PortNo) (linked : Linked) → linked_at a.controller port ≡ Some linked → at port_key (port_key linked) a.controller.ports ≡ Some linked
    own_found a port linked found = subst (λ m. at port_key m a.controller.ports ≡ Some linked) (sym (at_key port_key port.0 a.controller.ports linked found)) found

    label_kept : (port : PortNo) (a : Acted) (label : ℕ) → Phase a → Phase (cuts_label port a label)
    label_kept port a label h = by_found (linked_at a.controller port) (own_found a port)
      where
        by_found : (o : Option Linked) → ((linked : Linked) → o ≡ Some linked → at port_key (port_key linked) a.controller.ports ≡ Some linked) → Phase (cuts_of a label o)
        by_found None own = h
        by_found (Some linked) own = record { core = cut_label_core a.controller.ports linked (own linked refl) label a.controller.queue a.controller.reassembly a.notes h.core; named = h.named; node = h.node }

    default_kept : (a : Acted) (port : PortNo) → Phase a → Phase (cuts_default a port)
    default_kept a port h = by_found (linked_at a.controller port) (own_found a port)
      where
        by_found : (o : Option Linked) → ((linked : Linked) → o ≡ Some linked → at port_key (port_key linked) a.controller.ports ≡ Some linked) → Phase (cuts_default_of a o)
        by_found None own = h
        by_found (Some linked) own = record { core = cut_default_core a.controller.ports linked (own linked refl) a.controller.queue a.controller.reassembly a.notes h.core; named = h.named; node = h.node }

    alike_kept : (a c : Acted) → IsAlike a c → Phase a → Phase c
    alike_kept a c same h = record {
      core = subst (λ (q : List Cell). Core q c.controller.reassembly c.controller.ports c.notes.entries) (sym same.queue)
          (subst (λ (r : Reassembly). Core a.controller.queue r c.controller.ports c.notes.entries) (sym same.reassembly)
          (subst (λ (p : List Linked). Core a.controller.queue a.controller.reassembly p c.notes.entries) (sym same.ports)
          (subst (λ (j : Journal). Core a.controller.queue a.controller.reassembly a.controller.ports j.entries) (sym same.notes) h.core)));
      named = subst IsNamed (sym same.adjacency) h.named;
      node = same.node ∙ h.node;
    }

    noted_kept : (a : Acted) (item : Record) → IsCalm item → Phase a → Phase (note a item)
    noted_kept a item calm h = record {
      core = subst (Core a.controller.queue a.controller.reassembly a.controller.ports) (sym (ap (λ l. a.notes.entries ++ l) calm ∙ append-nil a.notes.entries)) h.core;
      named = h.named;
      node = h.node;
    }

    pub phase_kept : Kept Phase
    phase_kept = record {
      alike = alike_kept;
      named = λ a h. h.named;
      turned = λ a side named h. record { core = h.core; named = named; node = h.node };
      noted = noted_kept;
      sent = sends_kept;
      placed = λ a linked port found h. record { core = placed_core a.controller.ports linked found a.controller.queue a.controller.reassembly a.notes.entries port h.core; named = h.named; node = h.node };
      cut_label = label_kept;
      cut_default = default_kept;
      cut_gsmp = λ a h. record { core = cut_gsmp_core a.controller.queue a.controller.reassembly a.controller.ports a.notes h.core; named = h.named; node = h.node };
    }
