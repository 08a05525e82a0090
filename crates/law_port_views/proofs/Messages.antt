-- any message of the other end is heard, at either end of the link

use Rattle.std.proofs.Common.{◌≡◌, ℕ, Bool, true, false, List, refl}
use Rattle.law_port_facts.specs.port_model.Words.{Addr, Instance, Channel, is_label_number, FlowId, Redirect, Reclaim, ReclaimAck, LabelRange, Error, Desk, Setup, Work, is_spent, hears}
use Rattle.law_port_facts.specs.port_model.ifmp_wire.declared.message.Message.{Message}
use Rattle.law_port_facts.specs.port_model.ifmp_wire.declared.message.Message.TheVariants.{Adjacency}
use Rattle.law_label_line.specs.Cells.{Role, Downstream, Upstream, Cell}
use Rattle.law_label_line.specs.Line.{Line}
use Rattle.law_port_views.specs.Link.{LinkLabel, other}
use Rattle.law_port_views.specs.Heard.{names, is_own}
use Rattle.law_port_views.specs.Shown.{Shown}
use Rattle.law_port_views.specs.Reaching.{Comes}
use Rattle.law_port_views.proofs.Hearing.{hello_comes}
use Rattle.law_port_views.proofs.Others.{redirect_away, reclaim_away, ack_away, range_away, error_away}
use Rattle.law_port_views.proofs.Granting.{redirect_own, reclaim_own}
use Rattle.law_port_views.proofs.Recalling.{redirect_down, reclaim_down}
use Rattle.law_port_views.proofs.Recalls.{range_down, fault_down, ack_down}

module _ (link : LinkLabel) (like : Type 0) (queued : List Cell) where
  redirect_up : (setup : Setup) (desk : Desk) (w : Work) (source : Addr) (sender peer : Instance) (number lifetime : ℕ) (channel : Channel) (flow : FlowId) (line : Line) (b : Bool)
      → w.halted ≡ false → names link.label channel ≡ b → Shown Upstream link like queued w line
      → Comes Upstream link like queued (hears setup desk w source (Redirect sender peer number lifetime channel flow)) (Redirect sender peer number lifetime channel flow) line
  redirect_up setup desk w source sender peer number lifetime channel flow line true live n h =
      redirect_own link like queued setup desk w source sender peer number lifetime channel flow line live n h
  redirect_up setup desk w source sender peer number lifetime channel flow line false live n h =
      redirect_away link like queued setup desk w source sender peer number lifetime channel flow line live n h

  reclaim_up : (setup : Setup) (desk : Desk) (w : Work) (source : Addr) (sender peer : Instance) (number : ℕ) (channel : Channel) (flow : FlowId) (line : Line) (b : Bool)
      → w.halted ≡ false → names link.label channel ≡ b → Shown Upstream link like queued w line
      → Comes Upstream link like queued (hears setup desk w source (Reclaim sender peer number channel flow)) (Reclaim sender peer number channel flow) line
  reclaim_up setup desk w source sender peer number channel flow line true live n h =
      reclaim_own link like queued setup desk w source sender peer number channel flow line live n h
  reclaim_up setup desk w source sender peer number channel flow line false live n h =
      reclaim_away link like queued setup desk w source sender peer number channel flow line live n h

  pub message_comes : (role : Role) (setup : Setup) (desk : Desk) (w : Work) (source : Addr) (message : Message) (line : Line)
      → w.halted ≡ false → is_spent w.port.session ≡ false → is_label_number link.label ≡ true
      → source ≡ link.address (other role) → is_own (link.address role) message ≡ true → Shown role link like queued w line
      → Comes role link like queued (hears setup desk w source message) message line
  message_comes role setup desk w source (Adjacency hello) line live room in_range from mine h = hello_comes link like queued role setup desk w source hello line live from mine h
  message_comes Downstream setup desk w source (Redirect sender peer number lifetime channel flow) line live room in_range from mine h =
      redirect_down link like queued setup desk w source sender peer number lifetime channel flow line (λ l. room) h
  message_comes Upstream setup desk w source (Redirect sender peer number lifetime channel flow) line live room in_range from mine h =
      redirect_up setup desk w source sender peer number lifetime channel flow line (names link.label channel) live refl h
  message_comes Downstream setup desk w source (Reclaim sender peer number channel flow) line live room in_range from mine h =
      reclaim_down link like queued setup desk w source sender peer number channel flow line (λ l. room) h
  message_comes Upstream setup desk w source (Reclaim sender peer number channel flow) line live room in_range from mine h =
      reclaim_up setup desk w source sender peer number channel flow line (names link.label channel) live refl h
  message_comes Downstream setup desk w source (ReclaimAck sender peer number channel flow) line live room in_range from mine h =
      ack_down link like queued setup desk w source sender peer number channel flow line live h
  message_comes Upstream setup desk w source (ReclaimAck sender peer number channel flow) line live room in_range from mine h =
      ack_away link like queued setup desk w source sender peer number channel flow line live h
  message_comes Downstream setup desk w source (LabelRange sender peer number least greatest) line live room in_range from mine h =
      range_down link like queued setup desk w source sender peer number least greatest line in_range (λ l. room) h
  message_comes Upstream setup desk w source (LabelRange sender peer number least greatest) line live room in_range from mine h =
      range_away link like queued setup desk w source sender peer number least greatest line live h
  message_comes Downstream setup desk w source (Error sender peer number code channel) line live room in_range from mine h =
      fault_down link like queued setup desk w source sender peer number code channel line in_range (λ l. room) h
  message_comes Upstream setup desk w source (Error sender peer number code channel) line live room in_range from mine h =
      error_away link like queued setup desk w source sender peer number code channel line live h
