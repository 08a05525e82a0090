-- What is cut on the control link, the controller cuts.

use Rattle.std.proofs.Common.{◌≡◌, ℕ, List, Option, Some, None, refl, ap, ◌∙◌}
use Rattle.std.proofs.lemmas.Bool.{eqb-true}
use Rattle.std.specs.Option.{option_map_or}
use Rattle.keyed_lists.specs.Keyed.{at}
use Rattle.net_types.specs.declared.node.PortNo.{PortNo}
use Rattle.net_types.specs.Number.{GivenOut}
use Rattle.link_model.specs.Notes.{Journal}
use Rattle.frame_model.specs.Reassembly.{Reassembly, cut, nothing_taken}
use Rattle.world_model.specs.Controller as model
use Rattle.world_model.specs.Controller.{Acted, Linked, chain_of, chains_with}
use Rattle.world_model.specs.Resets.{cuts_default, cuts_label}
use Rattle.controller_link.specs.Cells as cells
use Rattle.controller_link.specs.Cells.{ControlCells, PortCells, ranges_of, reassembly_of, with_reassembly}
use Rattle.controller_link.specs.declared.taker.Taker.{Taker}
use Rattle.controller_link.specs.declared.taker.Taker.TheVariants.{Gsmp, Default, Label}
use Rattle.controller_gsmp.specs.Client.{AreOneNode, Client, PortEnd, Router, acted, end_key, linked_of}
use Rattle.controller_gsmp.proofs.Zipped.{At, at_both, key_of_found, linked, nowhere, put_cells, ranges_put}

-- nothing is cut of nothing
cut_nothing : (notes : Journal) → cut notes nothing_taken ≡ notes
cut_nothing notes = refl

-- a controller with other ports
abbrev with_all : Router → Client → Journal → GivenOut → List Linked → Acted
with_all r x notes numbers ports = let a = acted r x notes numbers in record a { controller = record a.controller { ports = ports } }

-- the controller with another part of the region for a port
with_part : (r : Router) (x : Client) (notes : Journal) (numbers : GivenOut) (port : PortNo) (end : PortEnd) (part after : PortCells) → AreOneNode r x → at end_key port.0 r.ports ≡ Some end → at cells.port_key port.0 x.control.ports ≡ Some part → after.range ≡ part.range
    → acted r (record x { control = cells.with_port x.control after }) notes numbers ≡ model.with_linked (acted r x notes numbers) (linked_of end after)
with_part r x notes numbers port end part after node has holds same =
    let own : end.setup.port.0 ≡ port.0 = eqb-true _ _ (key_of_found end_key port.0 r.ports end has) in
    let its : after.range.port.0 ≡ port.0 = ap (λ range. range.port.0) same ∙ eqb-true _ _ (key_of_found cells.port_key port.0 x.control.ports part holds) in
    ap (with_all r x notes numbers) (put_cells port.0 r.ports x.control.ports end after node.ports has own its)

pub cut_label_is : (r : Router) (x : Client) (notes : Journal) (numbers : GivenOut) (port : PortNo) (number : ℕ) → AreOneNode r x
    → acted r (record x { control = with_reassembly x.control (Label port number) nothing_taken }) (cut notes (reassembly_of x.control (Label port number))) numbers ≡ cuts_label port (acted r x notes numbers) number
cut_label_is r x notes numbers port number node = by (at_both port.0 r.ports x.control.ports node.ports) where
  by : At port.0 r.ports x.control.ports → acted r (record x { control = with_reassembly x.control (Label port number) nothing_taken }) (cut notes (reassembly_of x.control (Label port number))) numbers ≡ cuts_label port (acted r x notes numbers) number
  by (nowhere has holds is) = rw (holds, is) (ap (λ kept. acted r x kept numbers) (cut_nothing notes))
  by (linked end part has holds is) =
      rw (holds, is) (with_part r x (cut notes (chain_of part.chains number)) numbers port end part (record part { chains = chains_with part.chains number nothing_taken }) node has holds refl)

pub cut_default_is : (r : Router) (x : Client) (notes : Journal) (numbers : GivenOut) (port : PortNo) → AreOneNode r x
    → acted r (record x { control = with_reassembly x.control (Default port) nothing_taken }) (cut notes (reassembly_of x.control (Default port))) numbers ≡ cuts_default (acted r x notes numbers) port
cut_default_is r x notes numbers port node = by (at_both port.0 r.ports x.control.ports node.ports) where
  by : At port.0 r.ports x.control.ports → acted r (record x { control = with_reassembly x.control (Default port) nothing_taken }) (cut notes (reassembly_of x.control (Default port))) numbers ≡ cuts_default (acted r x notes numbers) port
  by (nowhere has holds is) = rw (holds, is) (ap (λ kept. acted r x kept numbers) (cut_nothing notes))
  by (linked end part has holds is) =
      rw (holds, is) (with_part r x (cut notes part.reassembly) numbers port end part (record part { reassembly = nothing_taken }) node has holds refl)

pub cut_label_ends : (r : Router) (x : Client) (after : ControlCells) (notes notes' : Journal) (numbers : GivenOut) (port : PortNo) (number : ℕ) → AreOneNode r x → after ≡ with_reassembly x.control (Label port number) nothing_taken → notes' ≡ cut notes (reassembly_of x.control (Label port number))
    → acted r (record x { control = after }) notes' numbers ≡ cuts_label port (acted r x notes numbers) number
cut_label_ends r x after notes notes' numbers port number node cells kept = (λ i. acted r (record x { control = cells i }) (kept i) numbers) ∙ cut_label_is r x notes numbers port number node

pub cut_default_ends : (r : Router) (x : Client) (after : ControlCells) (notes notes' : Journal) (numbers : GivenOut) (port : PortNo) → AreOneNode r x → after ≡ with_reassembly x.control (Default port) nothing_taken → notes' ≡ cut notes (reassembly_of x.control (Default port))
    → acted r (record x { control = after }) notes' numbers ≡ cuts_default (acted r x notes numbers) port
cut_default_ends r x after notes notes' numbers port node cells kept = (λ i. acted r (record x { control = cells i }) (kept i) numbers) ∙ cut_default_is r x notes numbers port node

-- the ports and the ranges of their labels stay
ranges_by : (x : ControlCells) (port : PortNo) (o : Option PortCells) (f : PortCells → PortCells) → ((part : PortCells) → (f part).range ≡ part.range) → at cells.port_key port.0 x.ports ≡ o → ranges_of (option_map_or (λ part. cells.with_port x (f part)) o x) ≡ ranges_of x
ranges_by x port None f keeps e = refl
ranges_by x port (Some part) f keeps e = ranges_put port.0 x.ports part (f part) e (keeps part) (ap (λ range. range.port.0) (keeps part) ∙ eqb-true _ _ (key_of_found cells.port_key port.0 x.ports part e))

pub ranges_kept : (x : ControlCells) (taker : Taker) (r : Reassembly) → ranges_of (with_reassembly x taker r) ≡ ranges_of x
ranges_kept x Gsmp r = refl
ranges_kept x (Default port) r = ranges_by x port _ (λ part. record part { reassembly = r }) (λ part. refl) refl
ranges_kept x (Label port number) r = ranges_by x port _ (λ part. record part { chains = chains_with part.chains number r }) (λ part. refl) refl
