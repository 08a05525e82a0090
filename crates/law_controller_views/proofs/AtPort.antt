-- the lift: a rule of a port that leads the line leads it at the port's controller, which puts the port back and does what
-- it asked; a rule of any other port leaves the line

use Rattle.std.proofs.Common.{◌≡◌, ◌≢◌, ℕ, ◌≤◌, false, List, [], Option, None, Some, refl, sym, ◌∙◌, ap, subst}
use Rattle.law_controller_facts.specs.world_model.Words.{PortNo, at, Action, Work, Linked, port_key, linked_at, begins, with_work, Rule, works_as, works, at_port}
use Rattle.law_controller_facts.specs.ordered_lists.Ordered.{Every}
use Rattle.law_controller_facts.proofs.law_port_facts.Keyed.{by_eq, at_key}
use Rattle.law_shown_cells.specs.law_label_line.Cells as lines
use Rattle.law_shown_cells.specs.law_label_line.Cells.{Role, Downstream, Upstream}
use Rattle.law_shown_cells.specs.law_label_line.Line.{Line}
use Rattle.law_controller_facts.specs.world_model.Controller.{Acted}
use Rattle.law_shown_cells.specs.law_port_views.Link.{LinkLabel}
use Rattle.law_shown_cells.specs.law_port_views.Shown.{Part, part_of, ShownAt, Shown}
use Rattle.law_shown_cells.specs.law_port_views.Reaching.{ReachesFrom, Reaches, Leads}
use Rattle.law_controller_views.specs.Ends.{working, End, EndLeads}
use Rattle.law_controller_views.proofs.Parts.{kept_chain, end_stays, end_then, quiet_leads}
use Rattle.law_controller_views.specs.Lifted.{IsProper, IsReadableAction, IsLifted}
use Rattle.law_controller_views.proofs.Works.{linked_is, port_is, own_put, own_grows, quiet_put, performed_own, performed_away}

module _ (link : LinkLabel) (proper : IsProper link) (like : Type 0) (role : Role) where
  -- a port as it left its work
  left : (queued : List lines.Cell) (w : Work) (part : Part) (r : Role) → ShownAt r link like queued w part
      → ShownAt r link like queued (record { port = w.port; actions = w.actions; halted = false; instances = w.instances }) part
  left queued w part Downstream s = record {
    side = s.side;
    session = s.session;
    label = s.label;
    flow = s.flow;
    number = s.number;
    unspent = s.unspent;
    known = s.known;
    reassembled = s.reassembled;
    drawn = s.drawn;
    own = s.own;
    sent = s.sent;
  }
  left queued w part Upstream s = record {
    side = s.side;
    session = s.session;
    grant = s.grant;
    once = s.once;
    lent = s.lent;
    expected = s.expected;
    drawn = s.drawn;
    own = s.own;
    sent = s.sent;
  }

  -- from a first line that a message led to, say
  pub put_back : (a : Acted) (linked : Linked) (w : Work) (before : List Action) (start line : Line) → a.numbers.instances ≤ w.instances
      → (e : End link like role a.notes.frames a.numbers.instances a.controller before line) → linked ≡ e.linked
      → (r : ReachesFrom role link like e.queued w start line)
      → End link like role a.notes.frames w.instances (with_work a linked w).controller w.actions r.after
  put_back a linked w before start line drawn e is r =
      subst (λ (z : Linked). End link like role a.notes.frames w.instances (with_work a z w).controller w.actions r.after) (sym is)
      (own_put link proper like role a (record e.linked { port = w.port }) a.notes w.instances before w.actions line refl drawn e refl refl
      (r.after, left e.queued w (part_of role r.after) role r.shown, r.rest, kept_chain role role r.after line r.rest))

  own_works : (a : Acted) (linked : Linked) (w : Work) → a.numbers.instances ≤ w.instances → linked_at a.controller (link.port role) ≡ Some linked
      → linked.setup.port ≡ link.port role → Every (IsReadableAction (link.address role)) w.actions
      → ((queued : List lines.Cell) → Leads role link like queued (begins a linked) w) → EndLeads link like role a [] (works_as a linked w) []
  own_works a linked w drawn found port reads leads =
      end_then link like role a (with_work a linked w) (works_as a linked w) [] w.actions []
      (λ unmade line e.
      let is : linked ≡ e.linked = linked_is linked e.linked (sym found ∙ e.found) in
      let r : Reaches role link like e.queued w line = leads e.queued line (subst (λ (z : Linked). Shown role link like e.queued (working z [] a.numbers.instances) line) (sym is) e.shown) in
      record {
        moves = r.moves;
        after = r.after;
        is = r.is;
        end = put_back a linked w [] line line drawn e is r;
        rest = r.rest;
        grows = own_grows link proper like role a (record linked { port = w.port }) a.notes w.instances refl drawn;
      })
      (performed_own link proper like role linked.setup.port w.actions (with_work a linked w) port reads)

  away_works : (a : Acted) (linked : Linked) (w : Work) → a.numbers.instances ≤ w.instances → linked.setup.port ≢ link.port role
      → EndLeads link like role a [] (works_as a linked w) []
  away_works a linked w drawn n =
      end_then link like role a (with_work a linked w) (works_as a linked w) [] [] []
      (quiet_leads link like role a (with_work a linked w) []
      (quiet_put link proper like role a (record linked { port = w.port }) a.notes w.instances refl drawn (λ e. n (port_is linked.setup.port (link.port role) e))))
      (performed_away link proper like role linked.setup.port w.actions (with_work a linked w) [] n)

  pub at_port_leads : (a : Acted) (q : PortNo) (rule : Rule) → IsLifted link like role a q rule → EndLeads link like role a [] (at_port a q rule) []
  at_port_leads a q rule lifted = by (linked_at a.controller q) refl
    where
      by : (o : Option Linked) → linked_at a.controller q ≡ o → EndLeads link like role a [] (works a rule o) []
      by None found = end_stays link like role a []
      by (Some linked) found =
          let w : Work = rule linked.setup a.controller.desk (begins a linked) in
          let port : linked.setup.port ≡ q = port_is linked.setup.port q (at_key port_key q.0 a.controller.ports linked found) in
          by_eq q.0 (link.port role).0
          (λ same t.
          let is : q ≡ link.port role = port_is q (link.port role) same in
          own_works a linked w (lifted.drawn linked found) (ap (λ (n : ℕ). at port_key n a.controller.ports) (sym same) ∙ found) (port ∙ is)
          (lifted.reads linked found is) (lifted.leads linked found is))
          (λ differ t. away_works a linked w (lifted.drawn linked found) (λ e. differ (ap (λ (p : PortNo). p.0) (sym port ∙ e))))
