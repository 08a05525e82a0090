-- at a tick of its node a port says one message for each label at most, and two

use Rattle.std.proofs.Common.{◌≡◌, ◌≢◌, ℕ, suc, ◌≤◌, ◌<◌, Bool, List, [], ◌∷◌, ◌++◌, length, map, flat_map, Option, None, Some, refl, sym, ap, ◌∙◌, subst, arith, fold, if◌then◌else◌}
use Rattle.std.proofs.lemmas.List.{length-map}
use Rattle.std.specs.Prelude.{◌+◌}
use Rattle.world_model.specs.Words.{PortNo, End, Party, Peer, Side, Said, Step, Reply, Silent, Says, Resets, Answer, Quiet, Send, Open, ticked, followed_tick, tick_reply, is_estab, greeting_of, gsmp_answer, meets, empty_desk, with_desk, says_gsmp, node_resets, number_of_channel, at, MoveBranch, last_number, Label, labels_of, Linked, linked_at, port_key, begins, home_of, sends_request, sends_again, enters_grant, enters_label, join_for, joins, joins_of, may_join, inputs_at, label_on, tries_join, tries_joins, tries_label, ticks_by, ticks_port, ticks_ports, lent, default_channel}
use Rattle.world_model.specs.adjacency_table.Side.{counted}
use Rattle.world_model.specs.adjacency_table.declared.message.Answer.TheVariants.{Reset}
use Rattle.world_model.specs.gsmp_wire.Layout.{octets_of as gsmp_octets}
use Rattle.world_model.specs.port_model.Desk.{message_at, sent_again}
use Rattle.world_model.specs.port_model.Joins.{joined}
use Rattle.world_model.specs.port_model.Ticks as port_ticks
use Rattle.world_model.specs.Controller.{Acted, ports_of}
use Rattle.world_model.specs.Gsmp.{answers, steps}
use Rattle.world_model.specs.gsmp_wire.declared.message.Message.TheVariants as messages
use Rattle.world_model.specs.gsmp_wire.declared.request.Request.TheVariants.{AllPorts}
use Rattle.world_model.specs.Joins.{Join, output_joined}
use Rattle.world_model.specs.Ticks.{ticks}
use Rattle.law_port_facts.specs.ordered_lists.Ordered.{Every}
use Rattle.law_port_facts.proofs.Keyed.{on_both, by_eq}
use Rattle.law_live_links.specs.Law.{number_of}
use Rattle.law_live_unseen.specs.Law.{seen_label, AreAlike}
use Rattle.law_live_ports.proofs.Keeping.{alike_itself}
use Rattle.law_live_others.specs.Law.{IsAlikeAt, IsUp}
use Rattle.law_live_others.proofs.Leaving.{Terms, never, Leaves, leaves_same, leaves_then, leaves_fold}
use Rattle.law_live_others.proofs.Working.{node_leaves, control_leaves, asks_leaves, other_leaves}
use Rattle.law_live_others.proofs.Settling.{ArePlaced, settled, anyhow}
use Rattle.law_link_numbers.specs.Law.{TicksKeepParties}
use Rattle.law_link_numbers.proofs.Room.{fewer, ticking}
use Rattle.law_link_numbers.proofs.Hearing.{lending, joining}
use Rattle.law_link_numbers.proofs.Spending.{At, Costs, costs_behind, costs_alike, costs_none, costs_fold, rule_costs, rule_none}
use Rattle.law_link_numbers.proofs.Answers.{asks_cost}

-- *The ports* before one, and behind it
record Split (port : PortNo) (all : List PortNo) : Type 0 where
  front : List PortNo
  back : List PortNo
  are : all ≡ front ++ port ∷ back
  before : Every (λ (q : PortNo). q.0 ≢ port.0) front
  behind : Every (λ (q : PortNo). q.0 ≢ port.0) back

above_all : (port : PortNo) (ports : List Linked) (key : ℕ) → key ≡ port.0 → Every (λ (y : Linked). key < port_key y) ports → Every (λ (q : PortNo). q.0 ≢ port.0) (map (λ (l : Linked). l.setup.port) ports)
above_all port [] key e above = tt
above_all port (y ∷ ports) key e above = (differs key (port_key y) above.0 e, above_all port ports key e above.1)
  where
    differs : (m n : ℕ) → m < n → m ≡ port.0 → n ≢ port.0
    differs m n less here there = absurd (omega (arith, less, here, there))

split : (port : PortNo) (ports : List Linked) (linked : Linked) → at port_key port.0 ports ≡ Some linked → ArePlaced ports → Split port (map (λ (l : Linked). l.setup.port) ports)
split port [] linked found placed = absurd (cc found)
split port (x ∷ ports) linked found placed = by_eq (port_key x) port.0
    (λ e t. record { front = []; back = map (λ (l : Linked). l.setup.port) ports; are = λ i. (record { 0 = e i }) ∷ map (λ (l : Linked). l.setup.port) ports; before = tt; behind = above_all port ports (port_key x) e placed.0 })
    (λ differs t. (let s : Split port (map (λ (l : Linked). l.setup.port) ports) = split port ports linked (ap (λ (b : Bool). if b then Some x else at port_key port.0 ports) (sym t) ∙ found) placed.1 in
    record { front = x.setup.port ∷ s.front; back = s.back; are = ap (λ (qs : List PortNo). x.setup.port ∷ qs) s.are; before = (differs, s.before); behind = s.behind }))

fold_join : {X : Type 0} (f : Acted → X → Acted) (xs ys : List X) (a : Acted) → fold f a (xs ++ ys) ≡ fold f (fold f a xs) ys
fold_join f [] ys a = refl
fold_join f (x ∷ xs) ys a = fold_join f xs ys (f a x)

-- *Any port*, of ports in order
abbrev placed_ports : PortNo → Terms
placed_ports port = record { port = port; is = λ p. Unit {0}; has = ArePlaced; stays = λ one next alike is. tt; placed = (settled port).placed }

-- a tick leaves a side's state
ticked_state : (side : Side Party) → (ticked side).side.state ≡ side.state
ticked_state side = by (tick_reply side.state (counted side.state side.silence))
  where
    by : (reply : Reply) → (followed_tick side reply).side.state ≡ side.state
    by Silent = refl
    by (Says kind) = refl
    by Resets = refl

module _ (port : PortNo) (own : Peer) where
  -- *Joins are tried*
  joins_cost : (a : Acted) (o : Option Join) → Costs port own 0 a (joins a o)
  joins_cost a None = costs_none port own a
  joins_cost a (Some join) =
      let granted : Acted = enters_grant a join in
      let labelled : Acted = enters_label granted join in
      costs_behind port own 0 a granted (joins a (Some join))
      (rule_none port own a join.port (λ setup desk w. lent w join.grant join.input) (λ q found k room. lending own (begins a q) join.grant join.input room))
      (costs_behind port own 0 granted labelled (joins a (Some join))
      (rule_none port own granted join.input.port (λ setup desk w. joined w (number_of_channel join.input.channel) (output_joined join))
      (λ q found k room. joining own (begins granted q) (number_of_channel join.input.channel) (output_joined join) room))
      (asks_cost port own labelled (MoveBranch join.input (home_of join.input) (output_joined join))))

  label_costs : (a : Acted) (input : End) (o : Option Label) → Costs port own 0 a (tries_label a input o)
  label_costs a input None = costs_none port own a
  label_costs a input (Some label) = on_both (Costs port own 0 a) (may_join a.controller input label) (joins a (join_for a.controller input label.flow)) a
      (joins_cost a (join_for a.controller input label.flow)) (costs_none port own a)

  tries_cost : (a : Acted) → Costs port own 0 a (tries_joins a)
  tries_cost a = costs_fold port own tries_join (λ b input. label_costs b input (label_on b.controller input)) (flat_map inputs_at a.controller.ports) a

  -- *The ports behind it*
  others_cost : (qs : List PortNo) → Every (λ (q : PortNo). q.0 ≢ port.0) qs → (a : Acted) → Costs port own 0 a (fold ticks_port a qs)
  others_cost [] are a = costs_none port own a
  others_cost (q ∷ qs) are a = costs_behind port own 0 a (ticks_port a q) (fold ticks_port (ticks_port a q) qs)
      (costs_alike port own a (ticks_port a q) (other_leaves (anyhow port) a q port_ticks.ticks (λ same x is. are.0 same))) (others_cost qs are.1 (ticks_port a q))

-- *What comes before* leaves it alike, and the ports in order
module _ (port : PortNo) where
  abbrev On : Acted → Acted → Type 0
  On a b = Leaves (placed_ports port) a b

  others_leave : (qs : List PortNo) → Every (λ (q : PortNo). q.0 ≢ port.0) qs → (a : Acted) → On a (fold ticks_port a qs)
  others_leave [] are a = leaves_same (placed_ports port) a a refl refl refl
  others_leave (q ∷ qs) are a = leaves_then (placed_ports port) a (ticks_port a q) (fold ticks_port (ticks_port a q) qs)
      (other_leaves (placed_ports port) a q port_ticks.ticks (λ same x is. are.0 same)) (others_leave qs are.1 (ticks_port a q))

  again_leaves : (a : Acted) → On a (sends_again a)
  again_leaves a = on_both (On a) (is_estab a.controller.adjacency.state) (fold sends_request a (sent_again a.controller.desk)) a
      (leaves_fold (placed_ports port) sends_request (λ b s. control_leaves (placed_ports port) b default_channel (gsmp_octets (message_at b.controller.desk s))) (sent_again a.controller.desk) a)
      (leaves_same (placed_ports port) a a refl refl refl)

  seen_labels : (one next : Linked) → AreAlike one.port next.port → length (labels_of next.port) ≡ length (labels_of one.port)
  seen_labels one next alike = sym (length-map (labels_of next.port) seen_label) ∙ (ap length alike.labels ∙ length-map (labels_of one.port) seen_label)

  -- *The whole tick* behind what comes first
  module _ (a b0 : Acted) (linked : Linked) (placed : ArePlaced a.controller.ports) (found : linked_at a.controller port ≡ Some linked) (started : On a b0)
      (few : number_of linked.port + (length (labels_of linked.port) + length (joins_of a.controller)) + 2 ≤ last_number) (spared : (ticked linked.port.adjacency).answer ≢ Reset) where
    module _ (q : Linked) (q_found : linked_at b0.controller port ≡ Some q) (alike : AreAlike linked.port q.port) (s : Split port (ports_of b0.controller)) where
      abbrev own : Peer
      own = linked.port.adjacency.own

      abbrev b1 : Acted
      b1 = fold ticks_port b0 s.front

      abbrev b2 : Acted
      b2 = ticks_port b1 port

      abbrev b3 : Acted
      b3 = fold ticks_port b2 s.back

      before : On b0 b1
      before = others_leave s.front s.before b0

      behind : Costs port own 0 b2 (tries_joins b3)
      behind = costs_behind port own 0 b2 b3 (tries_joins b3) (others_cost port own s.back s.behind b2) (tries_cost port own b3)

      whole : ticks_ports b0 ≡ b3
      whole = ap (fold ticks_port b0) s.are ∙ fold_join ticks_port s.front (port ∷ s.back) b0

      up_before : IsUp b2 → IsUp b1
      up_before = (other_leaves (never (anyhow port)) b1 port port_ticks.ticks (λ same x none. none)).up

      kept : IsUp (tries_joins b3) → ArePlaced b0.controller.ports → At port own 0 (tries_joins b3)
      kept up in_order = behind.kept up 0 (ticked_it.kept (behind.up up) 0 there)
        where
          like : IsAlikeAt q (linked_at b1.controller port)
          like = before.left (up_before (behind.up up)) in_order q q_found tt

          side : like.after.port.adjacency ≡ linked.port.adjacency
          side = like.alike.adjacency ∙ alike.adjacency

          labels : length (labels_of like.after.port) ≡ length (labels_of linked.port)
          labels = seen_labels q like.after like.alike ∙ seen_labels linked q alike

          number : number_of like.after.port ≡ number_of linked.port
          number = like.alike.number ∙ alike.number

          one : (x y : Linked) → Some x ≡ Some y → x ≡ y
          one x y e = cc

          ticked_it : Costs port own (length (labels_of linked.port) + 2) b1 b2
          ticked_it = rule_costs port own (length (labels_of linked.port) + 2) b1 port port_ticks.ticks
              (λ l is k room. (let same : like.after ≡ l = one like.after l (sym like.there ∙ is) in
              ticking own l.setup b1.controller.desk k (begins b1 l)
              (subst (λ (x : Linked). (ticked x.port.adjacency).answer ≢ Reset) same (subst (λ (d : Side Peer). (ticked d).answer ≢ Reset) (sym side) spared))
              (fewer own (begins b1 l) (low (length (labels_of l.port)) (length (labels_of linked.port)) k (sym (ap (λ (x : Linked). length (labels_of x.port)) same) ∙ labels)) room)))
            where
              low : (m n k : ℕ) → m ≡ n → m + suc (suc k) ≤ n + 2 + k
              low m n k e = omega (arith, e)

          there : At port own (length (labels_of linked.port) + 2 + 0) b1
          there = record {
            linked = like.after;
            is = like.there;
            own_party = ap (λ (d : Side Peer). d.own) side;
            room = room (number_of like.after.port) (number_of linked.port) (length (labels_of linked.port)) (length (joins_of a.controller)) number few;
          }
            where
              room : (m n l j : ℕ) → m ≡ n → n + (l + j) + 2 ≤ last_number → m + (l + 2 + 0) ≤ last_number
              room m n l j e few = omega (arith, e, few)

      kept_whole : IsUp (tries_joins (ticks_ports b0)) → ArePlaced b0.controller.ports → At port own 0 (tries_joins (ticks_ports b0))
      kept_whole = subst (λ (b : Acted). IsUp (tries_joins b) → ArePlaced b0.controller.ports → At port own 0 (tries_joins b)) (sym whole) kept

    up_start : IsUp (tries_joins (ticks_ports b0)) → IsUp b0
    up_start up = (leaves_fold (never (anyhow port)) ticks_port (λ c q. other_leaves (never (anyhow port)) c q port_ticks.ticks (λ same x none. none)) (ports_of b0.controller) b0).up
        ((tries_cost port linked.port.adjacency.own (ticks_ports b0)).up up)

    done : IsUp (tries_joins (ticks_ports b0)) → At port linked.port.adjacency.own 0 (tries_joins (ticks_ports b0))
    done up =
        let like : IsAlikeAt linked (linked_at b0.controller port) = started.left (up_start up) placed linked found tt in
        let in_order : ArePlaced b0.controller.ports = started.has (up_start up) placed in
        kept_whole like.after like.there like.alike (split port b0.controller.ports like.after like.there in_order) up in_order

  -- *The adjacency with the switch* comes first
  meets_leaves : (a : Acted) → On a (meets a)
  meets_leaves a = leaves_then (placed_ports port) a (with_desk a empty_desk) (meets a) (leaves_same (placed_ports port) a (with_desk a empty_desk) refl refl refl)
      (asks_leaves (placed_ports port) (with_desk a empty_desk) AllPorts)

  turns_leaves : (a : Acted) (answer : Answer (Said Party) Party) → On a (answers a (gsmp_answer answer))
  turns_leaves a Quiet = leaves_same (placed_ports port) a a refl refl refl
  turns_leaves a (Send m) = control_leaves (placed_ports port) a default_channel (gsmp_octets (messages.Adjacency (greeting_of m)))
  turns_leaves a (Open None key_of) = meets_leaves a
  turns_leaves a (Open (Some m) key_of) =
      let b : Acted = says_gsmp a (messages.Adjacency (greeting_of m)) in
      leaves_then (placed_ports port) a b (meets b) (control_leaves (placed_ports port) a default_channel (gsmp_octets (messages.Adjacency (greeting_of m)))) (meets_leaves b)
  turns_leaves a Reset = node_leaves (placed_ports port) a

  started_leaves : (a : Acted) → On a (sends_again (steps a (ticked a.controller.adjacency)))
  started_leaves a =
      let step : Step Party = ticked a.controller.adjacency in
      let b : Acted = record a { controller = record a.controller { adjacency = step.side } } in
      let turned : On a b = record {
        address = refl;
        up = λ up. ap is_estab (sym (ticked_state a.controller.adjacency)) ∙ up;
        has = λ up h. h;
        left = λ up h linked found is. record { after = linked; there = found; setup = refl; alike = alike_itself linked.port };
      } in
      leaves_then (placed_ports port) a (steps a step) (sends_again (steps a step)) (leaves_then (placed_ports port) a b (steps a step) turned (turns_leaves b step.answer)) (again_leaves (steps a step))

  pub kept_party : (own : Peer) (b : Acted) → At port own 0 b → (now : Linked) → linked_at b.controller port ≡ Some now → now.port.adjacency.own ≡ own
  kept_party own b h now found = ap (λ (l : Linked). l.port.adjacency.own) (one now h.linked (sym found ∙ h.is)) ∙ h.own_party
    where
      one : (x y : Linked) → Some x ≡ Some y → x ≡ y
      one x y e = cc

pub ticks_keep_parties : TicksKeepParties
ticks_keep_parties port a linked placed found numbers spared up = kept_party port linked.port.adjacency.own (ticks a) (by (ticked a.controller.adjacency).answer up)
  where
    step : Step Party
    step = ticked a.controller.adjacency

    on : IsUp (tries_joins (ticks_ports (sends_again (steps a step)))) → At port linked.port.adjacency.own 0 (tries_joins (ticks_ports (sends_again (steps a step))))
    on = done port a (sends_again (steps a step)) linked placed found (started_leaves port a) (numbers linked found) spared

    by : (answer : Answer (Said Party) Party) → IsUp (ticks_by a step answer) → At port linked.port.adjacency.own 0 (ticks_by a step answer)
    by Quiet up = on up
    by (Send m) up = on up
    by (Open m key_of) up = on up
    by Reset up = (costs_alike port linked.port.adjacency.own a (node_resets a) (node_leaves (anyhow port) a)).kept up 0 (record {
      linked = linked;
      is = found;
      own_party = refl;
      room = room (number_of linked.port) (length (labels_of linked.port) + length (joins_of a.controller)) (numbers linked found);
    })
      where
        room : (n m : ℕ) → n + m + 2 ≤ last_number → n + 0 ≤ last_number
        room n m few = omega (arith, few)
