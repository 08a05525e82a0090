-- each answer that comes to a controller settles what may be joined

use Rattle.std.proofs.Common.{◌≡◌, ℕ, ◌<◌, Bool, true, false, List, ◌∷◌, Option, None, Some, refl, sym, ap, subst, arith, inl, inr, if◌then◌else◌}
use Rattle.std.specs.Option.{option_and_then}
use Rattle.world_model.specs.Words.{Channel, NodeId, Up, Cell, Frame, payload_of, queue_of, Standing, leads_home, Done, answered, after_answer, control_port, Policy, home_of, label_end, label_at, Controller, Linked, linked_at, default_channel, ForGsmp, ForDefault, ForLabel, same_channel, taker_of, taker_at, label_taker, port_on, on_link, is_deleting, has_emptied, Topology, Site, site_at, gsmp_of, gsmp_under, Past, past_of}
use Rattle.world_model.specs.gsmp_wire.declared.message.Message.{Message}
use Rattle.law_frame_readings.specs.law_label_line.Cells.{Downstream, Upstream}
use Rattle.law_frame_readings.specs.law_port_views.Link.{LinkLabel}
use Rattle.world_model.specs.network_model.declared.event.Event.{Event}
use Rattle.world_model.specs.network_model.declared.event.Event.TheVariants.{Carry}
use Rattle.law_fed_worlds.proofs.law_causes.Shown.{peer_back}
use Rattle.law_run_facts.specs.Nodes.{RunsHaveNodes, IsNodeOfRun}
use Rattle.law_run_facts.specs.Steps.{RunsHaveFronts}
use Rattle.law_run_facts.specs.Chains.{RunsHaveOwnChains}
use Rattle.law_pairs.specs.Past.{RunsMakeNoPairs}
use Rattle.law_frame_readings.specs.law_world_views.Shown.{end_of}
use Rattle.law_frame_readings.specs.law_world_views.Pairs.{Pairs, IsLike}
use Rattle.law_frame_readings.specs.law_world_views.Between.{IsWorld, IsLinkLabel}
use Rattle.law_frame_readings.specs.law_world_views.Kept.{Comes, behind}
use Rattle.law_pairs.specs.Settles.{StaysJoined}
use Rattle.law_pairs.specs.Asked.{AnswersSettle}
use Rattle.law_joined_worlds.proofs.Freed.{led_home, meeting_ends}

-- *The GSMP channel* is the one that GSMP takes
pub gsmp_channel : (c : Controller) (channel : Channel) → taker_of c channel ≡ Some ForGsmp → same_channel channel default_channel ≡ true
gsmp_channel c channel e = by (same_channel channel default_channel) e
  where
    no_label : (linked : Linked) (o : Option _) → label_taker linked o ≡ Some ForGsmp → ⊥
    no_label linked None k = cc k
    no_label linked (Some label) k = test _ k
      where
        test : (b : Bool) → (if b then Some (ForLabel linked label) else None) ≡ Some ForGsmp → ⊥
        test true l = cc l
        test false l = cc l

    never : (o : Option Linked) → taker_at o (on_link channel) ≡ Some ForGsmp → ⊥
    never None k = cc k
    never (Some linked) k = test (same_channel (on_link channel) default_channel) (option_and_then (label_at linked.port) _) k
      where
        test : (b : Bool) (o : Option _) → (if b then Some (ForDefault linked) else label_taker linked o) ≡ Some ForGsmp → ⊥
        test true o l = cc l
        test false o l = no_label linked o l

    by : (b : Bool) → (if b then Some ForGsmp else taker_at (linked_at c (port_on channel)) (on_link channel)) ≡ Some ForGsmp → b ≡ true
    by true k = refl
    by false k = absurd (never (linked_at c (port_on channel)) k)

-- what was read has a payload
pub record HasPayload (frames : List Frame) (mark : _) (m : Message) : Type 0 where
  pub payload : List ℕ
  pub made : payload_of frames mark ≡ Some payload
  pub read : gsmp_of payload ≡ Some m

pub has_payload : (frames : List Frame) (mark : _) (m : Message) → gsmp_under frames mark ≡ Some m → HasPayload frames mark m
has_payload frames mark m e = by (payload_of frames mark) refl e
  where
    by : (o : Option (List ℕ)) → payload_of frames mark ≡ o → option_and_then gsmp_of o ≡ Some m → HasPayload frames mark m
    by None is k = absurd (cc k)
    by (Some payload) is k = record { payload = payload; made = is; read = k }

pub node_is : (a b : NodeId) → a.0 ≡ b.0 → a ≡ b
node_is a b e = ap (λ (n : ℕ). record { 0 = n }) e

module _ (nodes : RunsHaveNodes) (fronts : RunsHaveFronts) (gathered : RunsHaveOwnChains) (old : RunsMakeNoPairs) (policy : Policy) (topology : Topology) (before : List Event) (node : NodeId)
    (comes : Comes policy topology before (Carry (Up node))) (world : IsWorld (past_of policy topology before)) (link : LinkLabel) (of : IsLinkLabel topology link)
    (same : node.0 ≡ (link.node Upstream).0) (site : Site) (cell : Cell) (cells : List Cell) (found : site_at (past_of policy topology before).now node ≡ Some site)
    (front : queue_of site.switch.crossbar control_port ≡ cell ∷ cells) where
  abbrev past : Past
  past = past_of policy topology before

  n : IsNodeOfRun policy past node site
  n = nodes policy topology before comes.addresses (fronts policy topology before (Carry (Up node)) comes).run node site found

  on : 0 < (link.port Upstream).0
  on = (let up = peer_back topology comes.run.topology_is (end_of Upstream link) (end_of Downstream link) of.way.downstream in omega (arith, up.own.0))

  pair_before : (like : IsLike (behind policy topology before (Carry (Up node))).now link) → Pairs past.now node like.input (label_end (link.port Upstream) link.label)
  pair_before like = subst (λ (x : NodeId). Pairs past.now x like.input (label_end (link.port Upstream) link.label)) (sym (node_is node (link.node Upstream) same))
      (elim (old policy topology before (Carry (Up node)) comes world (link.node Upstream) like.input (label_end (link.port Upstream) link.label) like.above on like.pair) [
        | inl pair ↦ pair
        | inr entered ↦ absurd entered
      ])

  module _ (taker : taker_of site.controller cell.header.channel ≡ Some ForGsmp) (last : cell.header.last ≡ true) (m : Message) (s : Standing) (read : gsmp_under past.now.notes.frames cell.mark ≡ Some m)
      (done : answered site.controller.desk m ≡ Done s) where
    here : same_channel cell.header.channel default_channel ≡ true
    here = gsmp_channel site.controller cell.header.channel taker

    p : HasPayload past.now.notes.frames cell.mark m
    p = has_payload past.now.notes.frames cell.mark m read

    answer_joined : site.controller.has_met ≡ true → IsLike (behind policy topology before (Carry (Up node))).now link → StaysJoined link site.controller s
    answer_joined met like = record {
      input = like.input;
      join = world.joins node site found met like.input (label_end (link.port Upstream) link.label) like.above on (pair_before like);
      unled = by (leads_home like.input (home_of like.input) s.request) refl;
    }
      where
        by : (b : Bool) → leads_home like.input (home_of like.input) s.request ≡ b → leads_home like.input (home_of like.input) s.request ≡ false
        by true e = absurd (led_home past world (gathered policy topology before) node site found n.conduct.sound n.conduct.order cell cells front here last p.payload p.made m p.read s done
            like.input (label_end (link.port Upstream) link.label) like.above on e (pair_before like))
        by false e = e

    answer_emptied : site.controller.has_met ≡ false → is_deleting s.request ≡ true → has_emptied (record site.controller { desk = after_answer site.controller.desk (Done s) }) ≡ true
        → IsLike (behind policy topology before (Carry (Up node))).now link → ⊥
    answer_emptied unmet deletes none like = meeting_ends past world (gathered policy topology before) node site found n.conduct.sound n.conduct.order cell cells front here last p.payload p.made m p.read s done
        like.input (label_end (link.port Upstream) link.label) like.above on unmet deletes none (pair_before like)

pub answers_settle : RunsHaveNodes → RunsHaveFronts → RunsHaveOwnChains → RunsMakeNoPairs → AnswersSettle
answers_settle nodes fronts gathered old policy topology before node comes world link of same site cell cells found front =
    λ taker last m s read done. record {
      joined = λ met like. answer_joined nodes fronts gathered old policy topology before node comes world link of same site cell cells found front taker last m s read done met like;
      emptied = λ unmet deletes none like. answer_emptied nodes fronts gathered old policy topology before node comes world link of same site cell cells found front taker last m s read done unmet deletes none like;
    }
