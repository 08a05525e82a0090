-- What comes in a cell: what its channel makes of it on the control link, the controller's taker makes of it.

use Rattle.std.proofs.Common.{◌≡◌, nat_lt, Some, Result, Ok, Err, OnOk, refl, ap, sym, ◌∙◌}
use Rattle.std.proofs.lemmas.Bool.{eqb-true}
use Rattle.std.specs.Option.{option_map_or}
use Rattle.atm_cells.specs.declared.cell.Cell.{Cell}
use Rattle.net_types.specs.declared.node.PortNo.{PortNo}
use Rattle.net_types.specs.Number.{GivenOut}
use Rattle.link_model.specs.Notes.{Journal}
use Rattle.frame_model.specs.Reassembly.{Reassembly, nothing_taken}
use Rattle.controller_link.specs.reassembly.Receipt.{Received, received}
use Rattle.keyed_lists.specs.Keyed.{at}
use Rattle.controller_link.specs.Cells as cells
use Rattle.controller_link.specs.Cells.{ControlCells, PortCells}
use Rattle.controller_link.specs.declared.taker.Taker as control
use Rattle.world_model.specs.Controller as model
use Rattle.world_model.specs.Controller.{Linked, chain_of, chains_with, linked_at}
use Rattle.world_model.specs.Cells as takers
use Rattle.world_model.specs.Cells.{Taker, ForGsmp, ForDefault, ForLabel}
use Rattle.controller_gsmp.specs.Client.{AreOneNode, Client, PortEnd, Router, acted, controller_of, end_key, linked_of}
use Rattle.controller_gsmp.proofs.Sums.{free_is}
use Rattle.controller_gsmp.proofs.Zipped as zipped
use Rattle.controller_gsmp.proofs.Zipped.{At, at_both, key_of_found, nowhere, put_cells}
use Rattle.controller_router.specs.Cells.{IsFound, channel_of, gathered, receipt}
use Rattle.controller_router.proofs.Linked.{with_all}

-- *A linked port* has both its parts
record Parts (r : Router) (x : Client) (port : PortNo) (l : Linked) : Type 0 where
  end : PortEnd
  part : PortCells
  has : at end_key port.0 r.ports ≡ Some end
  holds : at cells.port_key port.0 x.control.ports ≡ Some part
  is : l ≡ linked_of end part

parts_of : (r : Router) (x : Client) (port : PortNo) (l : Linked) → AreOneNode r x → linked_at (controller_of r x) port ≡ Some l → Parts r x port l
parts_of r x port l node found = by (at_both port.0 r.ports x.control.ports node.ports) where
  by : At port.0 r.ports x.control.ports → Parts r x port l
  by (nowhere has holds is) = absurd (cc (sym is ∙ found))
  by (zipped.linked end part has holds is) = (let same : Some l ≡ Some (linked_of end part) = sym found ∙ is in record { end = end; part = part; has = has; holds = holds; is = cc same })

with_part : (r : Router) (x : Client) (notes : Journal) (numbers : GivenOut) (port : PortNo) (l : Linked) (after : PortCells) → AreOneNode r x → (p : Parts r x port l) → after.range ≡ p.part.range
    → acted r (record x { control = cells.with_port x.control after }) notes numbers ≡ model.with_linked (acted r x notes numbers) (linked_of p.end after)
with_part r x notes numbers port l after node p same =
    let own : p.end.setup.port.0 ≡ port.0 = eqb-true _ _ (key_of_found end_key port.0 r.ports p.end p.has) in
    let its : after.range.port.0 ≡ port.0 = ap (λ range. range.port.0) same ∙ eqb-true _ _ (key_of_found cells.port_key port.0 x.control.ports p.part p.holds) in
    ap (with_all r x notes numbers) (put_cells port.0 r.ports x.control.ports p.end after node.ports p.has own its)

-- *The reassembly* of a taker, and after it changed
reassembly_is : (r : Router) (x : Client) (t : Taker) → AreOneNode r x → IsFound (controller_of r x) t → cells.reassembly_of x.control (channel_of t) ≡ takers.reassembly_of (controller_of r x) t
reassembly_is r x ForGsmp node found = refl
reassembly_is r x (ForDefault linked) node found =
    let p = parts_of r x linked.setup.port linked node found in
    ap (λ o. option_map_or (λ (q : PortCells). q.reassembly) o nothing_taken) p.holds ∙ ap (λ (l : Linked). l.reassembly) (sym p.is)
reassembly_is r x (ForLabel linked label) node found =
    let p = parts_of r x linked.setup.port linked node found.found in
    ap (λ o. option_map_or (λ (q : PortCells). chain_of q.chains label.number) o nothing_taken) p.holds ∙ ap (λ (l : Linked). chain_of l.chains label.number) (sym p.is)

changed_is : (r : Router) (x : Client) (notes : Journal) (numbers : GivenOut) (t : Taker) (s : Reassembly) → AreOneNode r x → IsFound (controller_of r x) t
    → acted r (record x { control = cells.with_reassembly x.control (channel_of t) s }) notes numbers ≡ takers.with_reassembly (acted r x notes numbers) t s
changed_is r x notes numbers ForGsmp s node found = refl
changed_is r x notes numbers (ForDefault linked) s node found =
    let p = parts_of r x linked.setup.port linked node found in
    ap (λ o. acted r (record x { control = option_map_or (λ (q : PortCells). cells.with_port x.control (record q { reassembly = s })) o x.control }) notes numbers) p.holds
    ∙ with_part r x notes numbers linked.setup.port linked (record p.part { reassembly = s }) node p refl
    ∙ ap (λ (l : Linked). model.with_linked (acted r x notes numbers) (record l { reassembly = s })) (sym p.is)
changed_is r x notes numbers (ForLabel linked label) s node found =
    let p = parts_of r x linked.setup.port linked node found.found in
    ap (λ o. acted r (record x { control = option_map_or (λ (q : PortCells). cells.with_port x.control (record q { chains = chains_with q.chains label.number s })) o x.control }) notes numbers) p.holds
    ∙ with_part r x notes numbers linked.setup.port linked (record p.part { chains = chains_with p.part.chains label.number s }) node p refl
    ∙ ap (λ (l : Linked). model.with_linked (acted r x notes numbers) (record l { chains = chains_with l.chains label.number s })) (sym p.is)

-- *A cell*
abbrev receipt_at : ControlCells → Journal → control.Taker → Cell → Received
receipt_at x notes taker cell = received notes (nat_lt 0 (cells.free_slots x)) (cells.reassembly_of x taker) cell

pub receipt_is : (r : Router) (x : Client) (notes : Journal) (numbers : GivenOut) (t : Taker) (taker : control.Taker) (cell : Cell) → AreOneNode r x → IsFound (controller_of r x) t → channel_of t ≡ taker
    → receipt_at x.control notes taker cell ≡ receipt (acted r x notes numbers) t cell
receipt_is r x notes numbers t taker cell node found is =
    ap (λ n. received notes (nat_lt 0 n) (cells.reassembly_of x.control taker) cell) (sym (free_is r x node))
    ∙ ap (λ (c : control.Taker). received notes (nat_lt 0 (model.free_slots (controller_of r x))) (cells.reassembly_of x.control c) cell) (sym is)
    ∙ ap (λ (s : Reassembly). received notes (nat_lt 0 (model.free_slots (controller_of r x))) s cell) (reassembly_is r x t node found)

pub receives : (r : Router) (x : Client) (after : ControlCells) (notes notes' : Journal) (numbers : GivenOut) (t : Taker) (taker : control.Taker) (cell : Cell) → AreOneNode r x → IsFound (controller_of r x) t → channel_of t ≡ taker
    → after ≡ cells.with_reassembly x.control taker (receipt_at x.control notes taker cell).reassembly → notes' ≡ (receipt_at x.control notes taker cell).notes
    → acted r (record x { control = after }) notes' numbers ≡ gathered (acted r x notes numbers) t (receipt (acted r x notes numbers) t cell)
receives r x after notes notes' numbers t taker cell node found is is_after is_kept =
    let own = receipt (acted r x notes numbers) t cell in
    let same = receipt_is r x notes numbers t taker cell node found is in
    (λ i. acted r (record x { control = is_after i }) (is_kept i) numbers)
    ∙ (λ i. acted r (record x { control = cells.with_reassembly x.control taker (same i).reassembly }) (same i).notes numbers)
    ∙ ap (λ (c : control.Taker). acted r (record x { control = cells.with_reassembly x.control c own.reassembly }) own.notes numbers) (sym is)
    ∙ changed_is r x own.notes numbers t own.reassembly node found

-- *What follows where a call is done*
pub ok_both : {V F : Type 0} {P Q R : Type 0} (r : Result V F) → (P → Q → R) → OnOk r P → OnOk r Q → OnOk r R
ok_both (Ok v) f p q = f p q
ok_both (Err e) f p q = tt
