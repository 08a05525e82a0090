-- the two ends stay in touch in a network

use Rattle.std.proofs.Common.{◌≡◌, ◌≢◌, ℕ, ◌==◌, List, [], ◌∷◌, ◌++◌, drop, Option, Some, refl, sym, ◌∙◌, ap, subst, inl, inr}
use Rattle.world_model.specs.Words.{NodeId, PortNo, Addr, Place, Down, Up, Out, Cell, Request, at, put, default_home, hears as hears_it, nothing_taken, with_reassembly, ForGsmp, ForDefault, frame_holds, Linked, linked_at, port_key, at_port, Topology, World, Site, site_key, site_at, queue_at, with_queue_in, put_away, carries_head, next}
use Rattle.world_model.specs.Controller.{Acted}
use Rattle.world_model.specs.Gsmp.{message_comes}
use Rattle.world_model.specs.ifmp_wire.declared.message.Message.{Message}
use Rattle.world_model.specs.port_model.Port.{Port}
use Rattle.world_model.specs.network_model.declared.link.LinkEnd.{LinkEnd}
use Rattle.world_model.specs.network_model.declared.event.Event.TheVariants.{Carry}
use Rattle.law_port_facts.proofs.Keyed.{at_key, at_put_same}
use Rattle.law_live_hearing.specs.Law.{acting}
use Rattle.law_live_links.specs.Law.{EndOfLink}
use Rattle.law_live_worlds.specs.Law.{Shows, end_of}
use Rattle.law_live_arrivals.proofs.Arriving.{elsewhere}
use Rattle.law_live_elsewhere.specs.Law.{EndsNoFrame, IsElsewhere}
use Rattle.law_live_elsewhere.proofs.Kept.{KeptAt, KeepsNode, KeepsSites}
use Rattle.law_live_elsewhere.proofs.Elsewhere.{IsKept, carry_keeps}
use Rattle.law_live_others.specs.Law.{IsUp}
use Rattle.law_live_bindings.specs.Law.{label_branch, grant_branch, told_of}
use Rattle.law_live_recalls.specs.Law.{label_tree}
use Rattle.law_live_bound.specs.Law.{IsSuccess}
use Rattle.law_live_bound.specs.Worlds.{StaysUp, SwitchSays}
use Rattle.law_live_bound.proofs.Worlds.{heard_as, default_taker, some_port, one_site, one_linked, switch_told}
use Rattle.law_live_touch.specs.Touch.{AreInTouch}
use Rattle.law_live_touch.proofs.Ends.{swapped}
use Rattle.law_live_touch.proofs.Resting.{agreed_ends_touch, at_rest_they_agree}
use Rattle.law_live_touching.specs.Law.{TouchesAt, answers_to}
use Rattle.law_live_touching.specs.Worlds.{TouchIn, TouchGoesBothWays, AgreeingWorldsTouch, TouchingWorldsAgree, IsLeftAsItIs, LikeWorldsTouch, CarriesElsewhereKeepTouch, CountingsKeepTouch, HearingsKeepTouch, OffersKeepWorldsTouching, StartsKeepWorldsTouching, FreesKeepWorldsTouching}
use Rattle.law_live_touching.proofs.Frames.{packets_keep_touch, messages_keep_touch}
use Rattle.law_live_touching.proofs.Branches.{label_branches_keep_touch, grant_branches_keep_touch, label_trees_keep_touch}

-- *Either way*, and at rest
pub touch_goes_both_ways : TouchGoesBothWays
touch_goes_both_ways w one far said far_said t = record {
  linked = t.far_linked;
  far_linked = t.linked;
  shows = t.far_shows;
  far_shows = t.shows;
  touch = swapped (end_of t.linked said) (end_of t.far_linked far_said) t.touch;
}

pub agreeing_worlds_touch : AgreeingWorldsTouch
agreeing_worlds_touch w one far agree settled far_settled = record {
  linked = agree.linked;
  far_linked = agree.far_linked;
  shows = agree.shows;
  far_shows = agree.far_shows;
  touch = agreed_ends_touch (end_of agree.linked []) (end_of agree.far_linked []) (record { agreed = agree.agreed; one_is_heard = refl; other_is_heard = refl }) settled far_settled;
}

pub touching_worlds_agree : TouchingWorldsAgree
touching_worlds_agree w one far t still far_still = at_rest_they_agree (end_of t.linked []) (end_of t.far_linked []) t.touch still far_still

-- *Ports left as they are*
same_end : (before after : Linked) → after.setup ≡ before.setup → after.port ≡ before.port → (said : List Message) → end_of before said ≡ end_of after said
same_end before after setup port said = λ i. record { setup = sym setup i; port = sym port i; said = said }

pub like_worlds_touch : LikeWorldsTouch
like_worlds_touch w v one far said far_said t left far_left = record {
  linked = left.linked;
  far_linked = far_left.linked;
  shows = left.shows;
  far_shows = far_left.shows;
  touch = subst (λ (e : EndOfLink). AreInTouch (end_of left.linked said) e) (same_end t.far_linked far_left.linked far_left.setup far_left.port far_said)
      (subst (λ (e : EndOfLink). AreInTouch e (end_of t.far_linked far_said)) (same_end t.linked left.linked left.setup left.port said) t.touch);
}

-- *A carry elsewhere* keeps the ports of both ends
left_as_it_is : (topology : Topology) (w : World) (place : Place) (at_end : LinkEnd) (linked : Linked) → Shows w at_end linked
    → KeepsSites w.sites (carries_head topology (put_away w) place (queue_at w place)).sites at_end.node.0 → IsLeftAsItIs linked (next topology w (Carry place)) at_end
left_as_it_is topology w place at_end linked shows keeps = record {
  linked = kept.after;
  shows = record {
    site = node.after;
    there = node.there;
    of_port = kept.there;
    address = ap (λ (p : Port). p.adjacency.own.address) kept.port ∙ (shows.address ∙ sym node.controller.address);
  };
  setup = kept.setup;
  port = kept.port;
}
  where
    node : KeepsNode shows.site (at site_key at_end.node.0 (carries_head topology (put_away w) place (queue_at w place)).sites)
    node = keeps shows.site shows.there

    kept : KeptAt linked (linked_at node.after.controller at_end.port)
    kept = node.controller.ports at_end.port linked shows.of_port

-- one of them isn't reached, or by a cell that ends no frame
is_kept : (w : World) (one far : LinkEnd) (k : ℕ) → ((node : NodeId) → (node.0 ≢ one.node.0) × (node.0 ≢ far.node.0) → node.0 ≢ k)
    → (place : Place) (queue : List Cell) → queue_at w place ≡ queue → IsElsewhere w one far place → IsKept place queue k
is_kept w one far k others (Down node) queue is e = tt
is_kept w one far k others (Out node port) queue is e = tt
is_kept w one far k others (Up node) [] is e = tt
is_kept w one far k others (Up node) (cell ∷ cells) is (inl away) = inl (others node away)
is_kept w one far k others (Up node) (cell ∷ cells) is (inr ends_none) = inr (subst EndsNoFrame is ends_none)

pub carries_elsewhere_keep_touch : CarriesElsewhereKeepTouch
carries_elsewhere_keep_touch topology w one far place said far_said e t =
    like_worlds_touch w (next topology w (Carry place)) one far said far_said t
    (left_as_it_is topology w place one t.linked t.shows (carry_keeps topology w one far place (queue_at w place) one.node.0
    (is_kept w one far one.node.0 (λ node away. away.0) place (queue_at w place) refl e)))
    (left_as_it_is topology w place far t.far_linked t.far_shows (carry_keeps topology w one far place (queue_at w place) far.node.0
    (is_kept w one far far.node.0 (λ node away. away.1) place (queue_at w place) refl e)))

-- *A carry to one's controller*, that leaves it as it acted
module _ (topology : Topology) (w : World) (one far : LinkEnd) (said far_said : List Message) (apart : one.node.0 ≢ far.node.0) (t : TouchIn w one far said far_said) where
  abbrev site : Site
  site = t.shows.site

  abbrev after : Acted → Site
  after b = record (with_queue_in site (Up one.node) (drop 1 (queue_at w (Up one.node)))) { controller = b.controller }

  abbrev ActsAs : Acted → Type 0
  ActsAs b = site_at (next topology w (Carry (Up one.node))) one.node ≡ Some (after b)

  pub acted_touches : (b : Acted) → ActsAs b → (said_then far_then : List Message) → TouchesAt b one.port said_then (end_of t.far_linked far_then)
      → TouchIn (next topology w (Carry (Up one.node))) one far said_then far_then
  acted_touches b acts said_then far_then at_one = record {
    linked = at_one.linked;
    far_linked = t.far_linked;
    shows = record { site = after b; there = acts; of_port = at_one.of_port; address = at_one.address };
    far_shows = record {
      site = t.far_shows.site;
      there = elsewhere topology w one.node far.node.0 apart site t.shows.there ∙ t.far_shows.there;
      of_port = t.far_shows.of_port;
      address = t.far_shows.address;
    };
    touch = at_one.touch;
  }

  -- *Before it*, with a chain that was taken
  abbrev other : EndOfLink
  other = end_of t.far_linked far_said

  key : port_key t.linked ≡ one.port.0
  key = at_key port_key one.port.0 site.controller.ports t.linked t.shows.of_port

  pub own_port : t.linked.setup.port ≡ one.port
  own_port = λ i. record { 0 = key i }

  abbrev gsmp_before : TouchesAt (with_reassembly (acting w site) ForGsmp nothing_taken) one.port said other
  gsmp_before = record { linked = t.linked; of_port = t.shows.of_port; address = t.shows.address; touch = t.touch }

  abbrev emptied : Linked
  emptied = record t.linked { reassembly = nothing_taken }

  found_empty : at port_key one.port.0 (put port_key emptied site.controller.ports) ≡ Some emptied
  found_empty = ap (λ k. at port_key k (put port_key emptied site.controller.ports)) (sym key)
      ∙ at_put_same port_key emptied site.controller.ports t.linked (ap (λ k. at port_key k site.controller.ports) key ∙ t.shows.of_port)

  abbrev default_before : (port : PortNo) → one.port ≡ port → TouchesAt (with_reassembly (acting w site) (ForDefault t.linked) nothing_taken) port said other
  default_before port same = record {
    linked = emptied;
    of_port = ap (λ (p : PortNo). at port_key p.0 (put port_key emptied site.controller.ports)) (sym same) ∙ found_empty;
    address = t.shows.address;
    touch = t.touch;
  }

pub countings_keep_touch : CountingsKeepTouch
countings_keep_touch topology w one far mark payload packet said far_said apart t hears holds range up =
    acted_touches topology w one far said far_said apart t b acts said far_said
    (subst (λ (port : PortNo). TouchesAt b port said (end_of t.far_linked far_said)) own
    (packets_keep_touch before t.linked mark payload packet said (end_of t.far_linked far_said)
    (default_before topology w one far said far_said apart t t.linked.setup.port (sym own)) holds range (up _ acts)))
  where
    own : t.linked.setup.port ≡ one.port
    own = own_port topology w one far said far_said apart t

    before : Acted
    before = with_reassembly (acting w t.shows.site) (ForDefault t.linked) nothing_taken

    b : Acted
    b = frame_holds before (ForDefault t.linked) mark payload

    acts : site_at (next topology w (Carry (Up one.node))) one.node ≡ Some (record (with_queue_in t.shows.site (Up one.node) (drop 1 (queue_at w (Up one.node)))) { controller = b.controller })
    acts = heard_as topology w one.node (default_home one.port).channel mark payload hears t.shows.site t.shows.there (ForDefault t.linked)
        (default_taker t.shows.site.controller one.port t.linked
        (some_port one.port.0 (ap (λ (p : PortNo). p.0 == 0) (sym own) ∙ t.touch.one_end.of_link)) t.shows.of_port)

pub hearings_keep_touch : HearingsKeepTouch
hearings_keep_touch topology w one far message said far_said apart t hears room left up =
    acted_touches topology w one far said (message ∷ far_said) apart t b acts (said ++ answers_to (acting w site) (end_of t.linked said) other message) far_said
    (messages_keep_touch before one.port message said far_said other (default_before topology w one far said (message ∷ far_said) apart t one.port refl) refl room left (up _ acts))
  where
    site : Site
    site = t.shows.site

    other : EndOfLink
    other = end_of t.far_linked (message ∷ far_said)

    before : Acted
    before = with_reassembly (acting w site) (ForDefault t.linked) nothing_taken

    b : Acted
    b = at_port before one.port (λ setup desk v. hears_it setup desk v other.port.adjacency.own.address message)

    same_site : hears.site ≡ site
    same_site = one_site hears.site site (sym hears.there ∙ t.shows.there)

    same_linked : hears.linked ≡ t.linked
    same_linked = one_linked hears.linked t.linked (sym hears.of_port ∙ (ap (λ (s : Site). linked_at s.controller one.port) same_site ∙ t.shows.of_port))

    acts : site_at (next topology w (Carry (Up one.node))) one.node ≡ Some (record (with_queue_in site (Up one.node) (drop 1 (queue_at w (Up one.node)))) { controller = b.controller })
    acts = hears.acts
        ∙ (ap (λ (s : Site). after s hears.linked hears.linked.setup.port from) same_site
        ∙ (ap (λ (l : Linked). after site l l.setup.port from) same_linked
        ∙ (ap (λ (p : PortNo). after site t.linked p from) (own_port topology w one far said (message ∷ far_said) apart t)
        ∙ ap (λ source. after site t.linked one.port source) (sym t.far_shows.address))))
      where
        from : Addr
        from = t.far_shows.site.controller.address

        after : Site → Linked → PortNo → Addr → Option Site
        after s l p source = Some (record (with_queue_in s (Up one.node) (drop 1 (queue_at w (Up one.node)))) {
          controller = (at_port (with_reassembly (acting w s) (ForDefault l) nothing_taken) p (λ setup desk v. hears_it setup desk v source message)).controller;
        })

-- *What the switch says*
module _ (topology : Topology) (w : World) (one far : LinkEnd) (said far_said : List Message) (apart : one.node.0 ≢ far.node.0) (t : TouchIn w one far said far_said)
    (request : Request) (says : SwitchSays topology w one.node t.shows.site request) (up : StaysUp topology w one.node) where
  abbrev b : Acted
  b = message_comes (with_reassembly (acting w t.shows.site) ForGsmp nothing_taken) says.message

  acts : site_at (next topology w (Carry (Up one.node))) one.node ≡ Some (record (with_queue_in t.shows.site (Up one.node) (drop 1 (queue_at w (Up one.node)))) { controller = b.controller })
  acts = switch_told topology w one.node t.shows.site t.shows.there request says

  abbrev success : IsSuccess (with_reassembly (acting w t.shows.site) ForGsmp nothing_taken) says.message request
  success = record { standing = says.success.standing; is = says.success.is; of_request = says.success.of_request }

  -- by what it leaves of a port in touch
  pub told_touch : (said_then : List Message) → (IsSuccess (with_reassembly (acting w t.shows.site) ForGsmp nothing_taken) says.message request → IsUp b
      → TouchesAt b one.port said_then (end_of t.far_linked far_said)) → TouchIn (next topology w (Carry (Up one.node))) one far said_then far_said
  told_touch said_then by_success = acted_touches topology w one far said far_said apart t b acts said_then far_said (by_success success (up _ acts))

pub offers_keep_worlds_touching : OffersKeepWorldsTouching
offers_keep_worlds_touching topology w one far label said far_said apart t says held wiring left up =
    told_touch topology w one far said far_said apart t (label_branch t.linked.setup label.number) says up
    (said ++ told_of (end_of t.linked said) (end_of t.far_linked far_said) label ∷ [])
    (λ success now_up. label_branches_keep_touch (with_reassembly (acting w t.shows.site) ForGsmp nothing_taken) one.port says.message label said (end_of t.far_linked far_said)
    (gsmp_before topology w one far said far_said apart t) success held wiring left now_up)

pub starts_keep_worlds_touching : StartsKeepWorldsTouching
starts_keep_worlds_touching topology w one far number said far_said apart t says low up =
    told_touch topology w one far said far_said apart t (grant_branch t.linked.setup number) says up said
    (λ success now_up. grant_branches_keep_touch (with_reassembly (acting w t.shows.site) ForGsmp nothing_taken) one.port says.message number said (end_of t.far_linked far_said)
    (gsmp_before topology w one far said far_said apart t) success low now_up)

pub frees_keep_worlds_touching : FreesKeepWorldsTouching
frees_keep_worlds_touching topology w one far label said far_said apart t says none held quit low up =
    told_touch topology w one far said far_said apart t (label_tree t.linked.setup label.number) says up said
    (λ success now_up. label_trees_keep_touch (with_reassembly (acting w t.shows.site) ForGsmp nothing_taken) one.port says.message label said (end_of t.far_linked far_said)
    (gsmp_before topology w one far said far_said apart t) success none held quit low now_up)
