-- what an end shows while the other one moves, and the whole network behind a move of one end

use Rattle.std.proofs.Common.{◌≡◌, ℕ, ◌≤◌, ◌+◌, List, [], ◌++◌, refl, sym, ◌∙◌, ap, subst, arith}
use Rattle.law_controller_facts.specs.world_model.Words.{Frame, Action, Work, Controller, Linked}
use Rattle.law_shown_cells.specs.law_label_line.Cells as lines
use Rattle.law_shown_cells.specs.law_label_line.Cells.{Role, Downstream, Upstream, Way}
use Rattle.law_shown_cells.specs.law_label_line.Line as states
use Rattle.law_shown_cells.specs.law_label_line.Line.{Line}
use Rattle.law_shown_cells.specs.law_label_line.Moves.{run}
use Rattle.law_controller_facts.specs.world_model.Controller.{Acted}
use Rattle.law_shown_cells.specs.law_port_views.Link.{LinkLabel, other}
use Rattle.law_shown_cells.specs.law_port_views.Shown.{Part, part_of, rest_of, ShownAt}
use Rattle.law_shown_cells.proofs.law_port_views.Reach.{run_join}
use Rattle.law_shown_cells.specs.Seen.{Extends}
use Rattle.law_shown_cells.specs.Label.{OnLink, OnControl, ShowsCells}
use Rattle.law_shown_cells.proofs.Made.{extends_self, extends_on, shows_more}
use Rattle.law_controller_views.specs.Ends.{way_to, working, EndAt, End, Pieces, Net, Grows, EndGoes, EndLeads, Goes, asking, placed, Quietly}

-- *The other end's part* stays, but for the least instance that wasn't drawn yet
pub kept_part : (role : Role) (after line : Line) → rest_of (other role) after ≡ rest_of (other role) line
    → part_of role after ≡ record (part_of role line) { fresh = after.fresh }
kept_part Downstream after line e = λ i. record {
  side = (e i).downstream;
  label = (e i).label;
  flow = (e i).flow;
  number = (e i).number;
  known = (e i).known;
  reassembly = (e i).reassembly;
  grant = states.NoGrant;
  expected = 0;
  fresh = after.fresh;
  sent = (e i).to_upstream.to_switch;
}
kept_part Upstream after line e = λ i. record {
  side = (e i).upstream;
  label = states.Spare;
  flow = 0;
  number = 0;
  known = 0;
  reassembly = [];
  grant = (e i).grant;
  expected = (e i).expected;
  fresh = after.fresh;
  sent = (e i).to_downstream.to_switch;
}

-- and so do the chains and the queues of the switches
pub kept_chain : (role at : Role) (after line : Line) → rest_of role after ≡ rest_of role line → (way_to at after).chain ≡ (way_to at line).chain
kept_chain Downstream Downstream after line e = ap (λ (z : Line). z.to_downstream.chain) e
kept_chain Downstream Upstream after line e = ap (λ (z : Line). z.to_upstream.chain) e
kept_chain Upstream Downstream after line e = ap (λ (z : Line). z.to_downstream.chain) e
kept_chain Upstream Upstream after line e = ap (λ (z : Line). z.to_upstream.chain) e

pub kept_waiting : (role at : Role) (after line : Line) → rest_of role after ≡ rest_of role line → (way_to at after).to_controller ≡ (way_to at line).to_controller
kept_waiting Downstream Downstream after line e = ap (λ (z : Line). z.to_downstream.to_controller) e
kept_waiting Downstream Upstream after line e = ap (λ (z : Line). z.to_upstream.to_controller) e
kept_waiting Upstream Downstream after line e = ap (λ (z : Line). z.to_downstream.to_controller) e
kept_waiting Upstream Upstream after line e = ap (λ (z : Line). z.to_upstream.to_controller) e

pub kept_output : (role at : Role) (after line : Line) → rest_of role after ≡ rest_of role line → (way_to at after).output ≡ (way_to at line).output
kept_output Downstream Downstream after line e = ap (λ (z : Line). z.to_downstream.output) e
kept_output Downstream Upstream after line e = ap (λ (z : Line). z.to_upstream.output) e
kept_output Upstream Downstream after line e = ap (λ (z : Line). z.to_downstream.output) e
kept_output Upstream Upstream after line e = ap (λ (z : Line). z.to_upstream.output) e

pub grows_self : (a : Acted) → Grows a a
grows_self a = record { extends = extends_self a.notes.frames; instances = omega arith; unmade = λ h. h }

pub grows_on : {a b c : Acted} → Grows a b → Grows b c → Grows a c
grows_on h k = record { extends = extends_on h.extends k.extends; instances = omega (arith, h.instances, k.instances); unmade = λ u. k.unmade (h.unmade u) }

pub both : (P : Role → Type 0) → P Downstream → P Upstream → (role : Role) → P role
both P d u Downstream = d
both P d u Upstream = u

module _ (link : LinkLabel) (like : Type 0) where
  -- *An instance* is drawn elsewhere, and more are given out
  pub shown_later : (role : Role) (queued : List lines.Cell) (linked : Linked) (asked : List Action) (old new fresh : ℕ) (part : Part) → fresh ≤ new + 1
      → ShownAt role link like queued (working linked asked old) part → ShownAt role link like queued (working linked asked new) (record part { fresh = fresh })
  shown_later Downstream queued linked asked old new fresh part le s = record {
    side = s.side;
    session = s.session;
    label = s.label;
    flow = s.flow;
    number = s.number;
    unspent = s.unspent;
    known = s.known;
    reassembled = s.reassembled;
    drawn = le;
    own = s.own;
    sent = s.sent;
  }
  shown_later Upstream queued linked asked old new fresh part le s = record {
    side = s.side;
    session = s.session;
    grant = s.grant;
    once = s.once;
    lent = s.lent;
    expected = s.expected;
    drawn = le;
    own = s.own;
    sent = s.sent;
  }

  drawn_at : (role : Role) (queued : List lines.Cell) (w : Work) (part : Part) → ShownAt role link like queued w part → part.fresh ≤ w.instances + 1
  drawn_at Downstream queued w part s = s.drawn
  drawn_at Upstream queued w part s = s.drawn

  fresh_of : (role : Role) (line : Line) → (part_of role line).fresh ≡ line.fresh
  fresh_of Downstream line = refl
  fresh_of Upstream line = refl

  pub end_drawn : (role : Role) {frames : List Frame} {instances : ℕ} {c : Controller} {asked : List Action} (line : Line) → End link like role frames instances c asked line
      → line.fresh ≤ instances + 1
  end_drawn role {instances} {asked = asked} line e = subst (λ (n : ℕ). n ≤ instances + 1) (fresh_of role line) (drawn_at role e.queued (working e.linked asked instances) (part_of role line) e.shown)

  -- *The end at which nothing moves*
  pub end_kept : (role : Role) {old new : List Frame} {m n : ℕ} {c : Controller} {asked : List Action} (line after : Line)
      → Extends old new → after.fresh ≤ n + 1 → rest_of (other role) after ≡ rest_of (other role) line
      → End link like role old m c asked line → End link like role new n c asked after
  end_kept role {old} {new} {m} {n} {c} {asked} line after h drawn rest e = record {
    linked = e.linked;
    found = e.found;
    port = e.port;
    address = e.address;
    port_address = e.port_address;
    queued = e.queued;
    queue = shows_more (OnControl (link.port role)) role link h e.queue;
    shown = subst (ShownAt role link like e.queued (working e.linked asked n)) (sym (kept_part role after line rest))
        (shown_later role e.queued e.linked asked m n after.fresh (part_of role line) drawn e.shown);
    taken = subst (ShowsCells (OnControl (link.port role)) (other role) link new e.linked.reassembly.chain) (sym (kept_chain (other role) role after line rest))
        (shows_more (OnControl (link.port role)) (other role) link h e.taken);
  }

  -- frames alone are made, and instances given out
  pub end_later : (role : Role) {old new : List Frame} {m n : ℕ} {c : Controller} {asked : List Action} (line : Line)
      → Extends old new → m ≤ n → End link like role old m c asked line → End link like role new n c asked line
  end_later role {n = n} line h le e = end_kept role line line h (omega (arith, le, end_drawn role line e)) refl e

  -- *The whole network* behind a move of one end
  pub own_end : (role : Role) (pieces : Pieces) (a : Acted) (asked : List Action) (line : Line) → Net link like (placed role pieces a) (asking role asked) line
      → End link like role a.notes.frames a.numbers.instances a.controller asked line
  own_end Downstream pieces a asked line n = n.end Downstream
  own_end Upstream pieces a asked line n = n.end Upstream

  pub moved : (role : Role) (pieces : Pieces) (a b : Acted) (before after : List Action) (line moved_on : Line) → Net link like (placed role pieces a) (asking role before) line
      → End link like role b.notes.frames b.numbers.instances b.controller after moved_on → rest_of role moved_on ≡ rest_of role line → Grows a b
      → Net link like (placed role pieces b) (asking role after) moved_on
  moved Downstream pieces a b before after line moved_on n e rest grows = record {
    end = both (λ r. End link like r b.notes.frames b.numbers.instances ((placed Downstream pieces b).controller r) (asking Downstream after r) moved_on) e
        (end_kept Upstream line moved_on grows.extends (end_drawn Downstream moved_on e) rest (n.end Upstream));
    waiting = λ r. subst (ShowsCells (OnControl (link.port r)) (other r) link b.notes.frames (pieces.waiting r)) (sym (kept_waiting Downstream r moved_on line rest))
        (shows_more (OnControl (link.port r)) (other r) link grows.extends (n.waiting r));
    output = λ r. subst (ShowsCells OnLink r link b.notes.frames (pieces.output r)) (sym (kept_output Downstream (other r) moved_on line rest))
        (shows_more OnLink r link grows.extends (n.output r));
    unmade = grows.unmade n.unmade;
  }
  moved Upstream pieces a b before after line moved_on n e rest grows = record {
    end = both (λ r. End link like r b.notes.frames b.numbers.instances ((placed Upstream pieces b).controller r) (asking Upstream after r) moved_on)
        (end_kept Downstream line moved_on grows.extends (end_drawn Upstream moved_on e) rest (n.end Downstream)) e;
    waiting = λ r. subst (ShowsCells (OnControl (link.port r)) (other r) link b.notes.frames (pieces.waiting r)) (sym (kept_waiting Upstream r moved_on line rest))
        (shows_more (OnControl (link.port r)) (other r) link grows.extends (n.waiting r));
    output = λ r. subst (ShowsCells OnLink r link b.notes.frames (pieces.output r)) (sym (kept_output Upstream (other r) moved_on line rest))
        (shows_more OnLink r link grows.extends (n.output r));
    unmade = grows.unmade n.unmade;
  }

  -- what leads at one end leads the network
  pub net_goes : (role : Role) (pieces : Pieces) (a b : Acted) (before after : List Action) (line : Line) → EndLeads link like role a before b after
      → Net link like (placed role pieces a) (asking role before) line → Goes link like (placed role pieces b) (asking role after) line
  net_goes role pieces a b before after line leads n =
      let g : EndGoes link like role a b after line = leads n.unmade line (own_end role pieces a before line n) in
      record { moves = g.moves; after = g.after; is = g.is; net = moved role pieces a b before after line g.after n g.end g.rest g.grows }

  -- *Moves lead on*
  pub end_stays : (role : Role) (a : Acted) (asked : List Action) → EndLeads link like role a asked a asked
  end_stays role a asked unmade line e = record { moves = []; after = line; is = refl; end = e; rest = refl; grows = grows_self a }

  pub end_then : (role : Role) (a b c : Acted) (before between after : List Action) → EndLeads link like role a before b between
      → EndLeads link like role b between c after → EndLeads link like role a before c after
  end_then role a b c before between after f g unmade line e =
      let first : EndGoes link like role a b between line = f unmade line e in
      let second : EndGoes link like role b c after first.after = g (first.grows.unmade unmade) first.after first.end in
      record {
        moves = first.moves ++ second.moves;
        after = second.after;
        is = run_join line first.moves second.moves ∙ (ap (λ (z : Line). run z second.moves) first.is ∙ second.is);
        end = second.end;
        rest = second.rest ∙ first.rest;
        grows = grows_on first.grows second.grows;
      }

  pub goes_on : (pieces later : Pieces) (asked rest : Role → List Action) (line : Line) → Goes link like pieces asked line
      → ((after : Line) → Net link like pieces asked after → Goes link like later rest after) → Goes link like later rest line
  goes_on pieces later asked rest line g f =
      let h : Goes link like later rest g.after = f g.after g.net in
      record { moves = g.moves ++ h.moves; after = h.after; is = run_join line g.moves h.moves ∙ (ap (λ (z : Line). run z h.moves) g.is ∙ h.is); net = h.net }

  pub goes_same : (pieces : Pieces) (asked : Role → List Action) (line : Line) → Net link like pieces asked line → Goes link like pieces asked line
  goes_same pieces asked line n = record { moves = []; after = line; is = refl; net = n }

  -- *Quietly*: the line stays as it is
  pub quiet_leads : (role : Role) (a b : Acted) (asked : List Action) → Quietly link role a b → EndLeads link like role a asked b asked
  unfolding end_later end_kept
  quiet_leads role a b asked q unmade line e =
      let later : End link like role b.notes.frames b.numbers.instances a.controller asked line = end_later role line (q.grows unmade).extends (q.grows unmade).instances e in
      record {
        moves = [];
        after = line;
        is = refl;
        end = record {
          linked = e.linked;
          found = q.found ∙ e.found;
          port = e.port;
          address = q.address ∙ e.address;
          port_address = e.port_address;
          queued = e.queued;
          queue = q.queue unmade e.queued e.queue;
          shown = later.shown;
          taken = later.taken;
        };
        rest = refl;
        grows = q.grows unmade;
      }

pub quietly_self : (link : LinkLabel) (role : Role) (a : Acted) → Quietly link role a a
quietly_self link role a = record { grows = λ u. grows_self a; found = refl; address = refl; queue = λ u words s. s }

pub quietly_on : (link : LinkLabel) (role : Role) (a b c : Acted) → Quietly link role a b → Quietly link role b c → Quietly link role a c
quietly_on link role a b c h k = record {
  grows = λ u. grows_on (h.grows u) (k.grows ((h.grows u).unmade u));
  found = k.found ∙ h.found;
  address = k.address ∙ h.address;
  queue = λ u words s. k.queue ((h.grows u).unmade u) words (h.queue u words s);
}

-- less may be joined than before
pub shown_less : (link : LinkLabel) (less like : Type 0) (role : Role) (queued : List lines.Cell) (w : Work) (part : Part) → (less → like)
    → ShownAt role link like queued w part → ShownAt role link less queued w part
shown_less link less like Downstream queued w part f s = s
shown_less link less like Upstream queued w part f s = record {
  side = s.side;
  session = s.session;
  grant = s.grant;
  once = s.once;
  lent = λ h. s.lent (f h);
  expected = s.expected;
  drawn = s.drawn;
  own = s.own;
  sent = s.sent;
}

end_less : (link : LinkLabel) (less like : Type 0) (role : Role) {frames : List Frame} {m : ℕ} {c : Controller} {asked : List Action} {part : Part} {came : List lines.Cell}
    → (less → like) → EndAt link like role frames m c asked part came → EndAt link less role frames m c asked part came
end_less link less like role {m = m} {asked = asked} {part = part} f e = record {
  linked = e.linked;
  found = e.found;
  port = e.port;
  address = e.address;
  port_address = e.port_address;
  queued = e.queued;
  queue = e.queue;
  shown = shown_less link less like role e.queued (working e.linked asked m) part f e.shown;
  taken = e.taken;
}

pub net_less : (link : LinkLabel) (less like : Type 0) (pieces : Pieces) (asked : Role → List Action) (line : Line) → (less → like)
    → Net link like pieces asked line → Net link less pieces asked line
net_less link less like pieces asked line f n = record { end = λ r. end_less link less like r f (n.end r); waiting = n.waiting; output = n.output; unmade = n.unmade }
