-- what the line of a label tells of the cells of its link, wherever they stand

use Rattle.std.proofs.Common.{◌≡◌, ℕ, true, [], ◌++◌, Option, Some, refl, sym, ◌∙◌, ap, subst}
use Rattle.std.specs.Prelude.{Contains, is_some}
use Rattle.std.specs.Option.{option_map, option_map_or, option_and_then}
use Rattle.law_causes.specs.world_model.Words.{Place, Down, Up, Out, Clearing, SynSent, SynRcvd, Estab, State, is_estab, Cell, at, label_number, Session, Controller, Linked, linked_at, queue_of, World, Site, site_at, queue_at, queue_in, place_node, linked_end, session_at, chain_at, Past, held}
use Rattle.law_world_views.specs.ordered_lists.Ordered.{Every}
use Rattle.law_world_views.proofs.ordered_lists.Every.{every_left, every_right}
use Rattle.law_label_line.specs.Cells as lines
use Rattle.law_label_line.specs.Cells.{Role, Downstream, Upstream}
use Rattle.law_label_line.specs.Line.{Line}
use Rattle.law_label_line.specs.Law as laws
use Rattle.law_label_line.specs.Law.{on_the_way}
use Rattle.law_world_views.specs.law_port_views.Link.{LinkLabel, other}
use Rattle.law_world_views.specs.law_port_views.Shown.{label_of}
use Rattle.law_world_views.specs.law_shown_cells.Label.{OnLink, OnControl}
use Rattle.law_world_views.specs.law_controller_views.Ends as views
use Rattle.law_world_views.specs.Shown.{end_of, WorldShows}
use Rattle.law_world_views.specs.Pairs.{IsLike}
use Rattle.law_world_views.specs.Between.{HasLabelLine}
use Rattle.law_unused_labels.proofs.Seen.{IsQuiet, quiet_in}

module _ (past : Past) (link : LinkLabel) (h : HasLabelLine past link) where
  abbrev w : World
  w = past.now

  abbrev line : Line
  line = h.line

  abbrev s : WorldShows link (IsLike w link) w line
  s = h.shows

  pub linked_is : (role : Role) → linked_end w (end_of role link) ≡ Some (s.net.end role).linked
  linked_is role = ap (λ (o : Option Site). option_and_then (λ (c : Controller). linked_at c (link.port role)) (option_map (λ site. site.controller) o)) (s.found role) ∙ (s.net.end role).found

  -- *Where its adjacency is open*
  module _ (session : Session) (opened : session_at past.now (end_of Downstream link) ≡ Some session) where
    session_is : (s.net.end Downstream).linked.port.session ≡ Some session
    session_is = sym (ap (λ (o : Option Linked). option_and_then (λ linked. linked.port.session) o) (linked_is Downstream)) ∙ opened

    pub label_is : line.label ≡ label_of (held session link.label)
    label_is = (s.net.end Downstream).shown.label ∙ ap (λ (o : Option Session). label_of (at label_number link.label (option_map_or (λ x. x.labels) o []))) session_is

    pub is_open : laws.IsOpen line
    is_open = state line.downstream.state (sym (sym (ap (λ (o : Option Session). is_some o) session_is) ∙ (s.net.end Downstream).shown.session))
      where
        state : (x : State) → is_estab x ≡ true → x ≡ Estab
        state Clearing e = absurd (cc e)
        state SynSent e = absurd (cc e)
        state SynRcvd e = absurd (cc e)
        state Estab e = refl

  module _ (Holds : lines.Cell → Type 0) (all : Every Holds (on_the_way h.line)) where
    -- *The cells of each way*
    ways : (role : Role) → Every Holds (lines.cells (views.way_to role line))
    ways Downstream = every_left Holds (lines.cells line.to_downstream) (lines.cells line.to_upstream) all
    ways Upstream = every_right Holds (lines.cells line.to_downstream) (lines.cells line.to_upstream) all

    module _ (role : Role) where
      abbrev way : lines.Way
      way = views.way_to role line

      chain_holds : Every Holds way.chain
      chain_holds = every_left Holds way.chain _ (ways role)

      rest : Every Holds (way.to_controller ++ (way.output ++ way.to_switch))
      rest = every_right Holds way.chain _ (ways role)

      controller_holds : Every Holds way.to_controller
      controller_holds = every_left Holds way.to_controller _ rest

      output_holds : Every Holds way.output
      output_holds = every_left Holds way.output way.to_switch (every_right Holds way.to_controller _ rest)

      switch_holds : Every Holds way.to_switch
      switch_holds = every_right Holds way.output way.to_switch (every_right Holds way.to_controller _ rest)

    queued_holds : (role : Role) → Every Holds (s.net.end role).queued
    queued_holds Downstream = every_left Holds (s.net.end Downstream).queued _ (subst (Every Holds) (s.net.end Downstream).shown.sent (switch_holds Upstream))
    queued_holds Upstream = every_left Holds (s.net.end Upstream).queued _ (subst (Every Holds) (s.net.end Upstream).shown.sent (switch_holds Downstream))

    at_place : (role : Role) (place : Place) (c : Cell) → (place_node place).0 ≡ (link.node role).0 → Contains (queue_at w place) c → Contains (queue_in (s.end role) place) c
    at_place role place c node has = subst (λ (o : Option Site). Contains (option_map_or (λ site. queue_in site place) o []) c)
        (ap (λ (n : ℕ). site_at w (record { 0 = n })) node ∙ s.found role) has

    pub on_out : (role : Role) (c : Cell) → Contains (queue_at w (Out (link.node role) (link.port role))) c → IsQuiet Holds OnLink role link w.notes.frames c
    on_out role c has = by role c (at_place role (Out (link.node role) (link.port role)) c refl has)
      where
        by : (role : Role) (c : Cell) → Contains (queue_of (s.end role).switch.crossbar (link.port role)) c → IsQuiet Holds OnLink role link w.notes.frames c
        by Downstream c has = quiet_in Holds OnLink Downstream link w.notes.frames _ _ (s.net.output Downstream) (output_holds Upstream) c has
        by Upstream c has = quiet_in Holds OnLink Upstream link w.notes.frames _ _ (s.net.output Upstream) (output_holds Downstream) c has

    pub on_up : (role : Role) (c : Cell) → Contains (queue_at w (Up (link.node role))) c → IsQuiet Holds (OnControl (link.port role)) (other role) link w.notes.frames c
    on_up role c has = quiet_in Holds (OnControl (link.port role)) (other role) link w.notes.frames _ _ (s.net.waiting role) (controller_holds role) c (at_place role (Up (link.node role)) c refl has)

    pub on_down : (role : Role) (c : Cell) → Contains (queue_at w (Down (link.node role))) c → IsQuiet Holds (OnControl (link.port role)) role link w.notes.frames c
    on_down role c has = quiet_in Holds (OnControl (link.port role)) role link w.notes.frames _ _ (s.net.end role).queue (queued_holds role) c (at_place role (Down (link.node role)) c refl has)

    pub in_chain : (role : Role) (c : Cell) → Contains (chain_at w (end_of role link)) c → IsQuiet Holds (OnControl (link.port role)) (other role) link w.notes.frames c
    in_chain role c has = quiet_in Holds (OnControl (link.port role)) (other role) link w.notes.frames _ _ (s.net.end role).taken (chain_holds role) c
        (subst (λ (o : Option Linked). Contains (option_map_or (λ linked. linked.reassembly.chain) o []) c) (linked_is role) has)
