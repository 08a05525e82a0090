-- the chains of a controller, one by one: what a change of a port does to them

use Rattle.std.specs.Prelude.{not, nat_le}
use Rattle.std.proofs.Common.{◌≡◌, ◌==◌, ◌&&◌, ℕ, Bool, true, false, List, [], ◌∷◌, ◌++◌, length, Option, None, Some, refl, sym, ◌∙◌, ap, subst, if◌then◌else◌}
use Rattle.std.specs.Option.{option_map_or, option_and_then}
use Rattle.world_model.specs.Words.{Channel, label_number_of, Cell, Reassembly, nothing_taken, passed_over, without_slot, too_long, most_cells, Journal, at, put, Label, is_bound, label_at, Controller, Linked, LabelChain, port_key, linked_at, chain_of, chains_with, default_channel, with_reassembly, ForGsmp, ForDefault, ForLabel, port_on, on_link, same_channel, label_taker, taker_at, taker_of}
use Rattle.world_model.specs.frame_model.Reassembly.{Taken, taken, cell_joined}
use Rattle.law_causes.proofs.law_port_facts.Keyed.{on_both}
use Rattle.world_model.specs.Controller.{Acted}
use Rattle.world_model.specs.Cells.{Taker}
use Rattle.world_model.proofs.Lists.{by_eq, at_key}
use Rattle.law_causes.proofs.Ends.{put_same, put_new, chain_here, chain_there}
use Rattle.law_true_losses.specs.Cut.{Holder, OfBranch, OfSwitch, OfGsmp, OfDefault, OfLabel, same_holder, holder_of}

abbrev pub default_in : Option Linked → List Cell
default_in o = option_map_or (λ (linked : Linked). linked.reassembly.chain) o []

abbrev pub label_in : ℕ → Option Linked → List Cell
label_in label o = option_map_or (λ (linked : Linked). (chain_of linked.chains label).chain) o []

abbrev pub chains : Reassembly → List Linked → Holder → List Cell
chains r ports (OfBranch input) = []
chains r ports OfSwitch = []
chains r ports OfGsmp = r.chain
chains r ports (OfDefault port) = default_in (at port_key port.0 ports)
chains r ports (OfLabel port label) = label_in label (at port_key port.0 ports)

pub gsmp_set : (r : Reassembly) (ports : List Linked) (x : Reassembly) (h : Holder) → chains x ports h ≡ (if same_holder h OfGsmp then x.chain else chains r ports h)
gsmp_set r ports x (OfBranch input) = refl
gsmp_set r ports x OfSwitch = refl
gsmp_set r ports x OfGsmp = refl
gsmp_set r ports x (OfDefault port) = refl
gsmp_set r ports x (OfLabel port label) = refl

pub gsmp_emptied : (r : Reassembly) (ports : List Linked) (h : Holder) → chains nothing_taken ports h ≡ (if same_holder h OfGsmp then [] else chains r ports h)
gsmp_emptied r ports = gsmp_set r ports nothing_taken

module _ (r : Reassembly) (ports : List Linked) (linked : Linked) where
  -- *A port changes*, and its chains don't
  pub placed_chains : (new : Linked) → at port_key (port_key linked) ports ≡ Some linked → port_key new ≡ port_key linked → new.reassembly ≡ linked.reassembly → new.chains ≡ linked.chains
      → (h : Holder) → chains r (put port_key new ports) h ≡ chains r ports h
  placed_chains new own key reassembly kept (OfBranch input) = refl
  placed_chains new own key reassembly kept OfSwitch = refl
  placed_chains new own key reassembly kept OfGsmp = refl
  placed_chains new own key reassembly kept (OfDefault port) = put_same new linked ports (subst (λ (n : ℕ). at port_key n ports ≡ Some linked) (sym key) own) default_in port.0
      (λ same. ap (λ (x : Reassembly). x.chain) reassembly)
  placed_chains new own key reassembly kept (OfLabel port label) = put_same new linked ports (subst (λ (n : ℕ). at port_key n ports ≡ Some linked) (sym key) own) (label_in label) port.0
      (λ same. ap (λ (x : List LabelChain). (chain_of x label).chain) kept)

  module _ (own : at port_key (port_key linked) ports ≡ Some linked) where
    pub default_chain : chains r ports (OfDefault linked.setup.port) ≡ linked.reassembly.chain
    default_chain = ap default_in own

    pub label_chain : (label : ℕ) → chains r ports (OfLabel linked.setup.port label) ≡ (chain_of linked.chains label).chain
    label_chain label = ap (label_in label) own

    -- *The chain of its default channel* is another
    pub default_set : (x : Reassembly) (h : Holder) → chains r (put port_key (record linked { reassembly = x }) ports) h ≡ (if same_holder h (OfDefault linked.setup.port) then x.chain else chains r ports h)
    default_set x (OfBranch input) = refl
    default_set x OfSwitch = refl
    default_set x OfGsmp = refl
    default_set x (OfDefault port) = by_eq port.0 (port_key linked)
        (λ same t. put_new (record linked { reassembly = x }) linked ports own default_in port.0 (sym same)
        ∙ sym (ap (λ (b : Bool). if b then x.chain else default_in (at port_key port.0 ports)) t))
        (λ away t. put_same (record linked { reassembly = x }) linked ports own default_in port.0 (λ same. absurd (away (sym same)))
        ∙ sym (ap (λ (b : Bool). if b then x.chain else default_in (at port_key port.0 ports)) t))
    default_set x (OfLabel port label) = put_same (record linked { reassembly = x }) linked ports own (label_in label) port.0 (λ same. refl)

    -- *The chain of a label* is another
    pub label_set : (number : ℕ) (x : Reassembly) (h : Holder)
        → chains r (put port_key (record linked { chains = chains_with linked.chains number x }) ports) h ≡ (if same_holder h (OfLabel linked.setup.port number) then x.chain else chains r ports h)
    label_set number x (OfBranch input) = refl
    label_set number x OfSwitch = refl
    label_set number x OfGsmp = refl
    label_set number x (OfDefault port) = put_same (record linked { chains = chains_with linked.chains number x }) linked ports own default_in port.0 (λ same. refl)
    label_set number x (OfLabel port label) = by_eq port.0 (port_key linked)
        (λ same t. by_eq label number
        (λ one u. put_new new linked ports own (label_in label) port.0 (sym same)
        ∙ ap (λ (n : ℕ). (chain_of (chains_with linked.chains number x) n).chain) one ∙ ap (λ (y : Reassembly). y.chain) (chain_here linked.chains number x)
        ∙ sym (goes true (ap (λ (b : Bool). b && (label == number)) t ∙ u)))
        (λ apart u. put_same new linked ports own (label_in label) port.0 (λ key. ap (λ (y : Reassembly). y.chain) (chain_there linked.chains number label x (λ e. apart (sym e))))
        ∙ sym (goes false (ap (λ (b : Bool). b && (label == number)) t ∙ u))))
        (λ away t. put_same new linked ports own (label_in label) port.0 (λ same. absurd (away (sym same)))
        ∙ sym (goes false (ap (λ (b : Bool). b && (label == number)) t)))
      where
        new : Linked
        new = record linked { chains = chains_with linked.chains number x }

        goes : (b : Bool) → ((port.0 == port_key linked) && (label == number)) ≡ b
            → (if (port.0 == port_key linked) && (label == number) then x.chain else label_in label (at port_key port.0 ports)) ≡ (if b then x.chain else label_in label (at port_key port.0 ports))
        goes b t = ap (λ (c : Bool). if c then x.chain else label_in label (at port_key port.0 ports)) t

    pub default_emptied : (h : Holder) → chains r (put port_key (record linked { reassembly = nothing_taken }) ports) h ≡ (if same_holder h (OfDefault linked.setup.port) then [] else chains r ports h)
    default_emptied = default_set nothing_taken

    pub label_emptied : (number : ℕ) (h : Holder) → chains r (put port_key (record linked { chains = chains_with linked.chains number nothing_taken }) ports) h ≡ (if same_holder h (OfLabel linked.setup.port number) then [] else chains r ports h)
    label_emptied number = label_set number nothing_taken

-- *Who takes cells* is a port that the controller has
abbrev pub OwnTaker : List Linked → Taker → Type 0
OwnTaker ports ForGsmp = Unit {0}
OwnTaker ports (ForDefault linked) = at port_key (port_key linked) ports ≡ Some linked
OwnTaker ports (ForLabel linked label) = at port_key (port_key linked) ports ≡ Some linked

pub own_taker : (c : Controller) (channel : Channel) (taker : Taker) → taker_of c channel ≡ Some taker → OwnTaker c.ports taker
own_taker c channel taker is = by_gsmp (same_channel channel default_channel) is
  where
    by_bound : (linked : Linked) → at port_key (port_key linked) c.ports ≡ Some linked → (label : Label) (b : Bool) → (if b then Some (ForLabel linked label) else None) ≡ Some taker → OwnTaker c.ports taker
    by_bound linked own label true e = (let same : ForLabel linked label ≡ taker = cc in subst (OwnTaker c.ports) same own)
    by_bound linked own label false e = absurd (cc e)

    by_label : (linked : Linked) → at port_key (port_key linked) c.ports ≡ Some linked → (o : Option Label) → label_taker linked o ≡ Some taker → OwnTaker c.ports taker
    by_label linked own None e = absurd (cc e)
    by_label linked own (Some label) e = by_bound linked own label (is_bound label.state) e

    by_default : (linked : Linked) → at port_key (port_key linked) c.ports ≡ Some linked → (b : Bool)
        → (if b then Some (ForDefault linked) else label_taker linked (option_and_then (label_at linked.port) (label_number_of (on_link channel)))) ≡ Some taker → OwnTaker c.ports taker
    by_default linked own true e = (let same : ForDefault linked ≡ taker = cc in subst (OwnTaker c.ports) same own)
    by_default linked own false e = by_label linked own (option_and_then (label_at linked.port) (label_number_of (on_link channel))) e

    by_linked : (o : Option Linked) → at port_key (port_on channel).0 c.ports ≡ o → taker_at o (on_link channel) ≡ Some taker → OwnTaker c.ports taker
    by_linked None found e = absurd (cc e)
    by_linked (Some linked) found e = by_default linked (subst (λ (n : ℕ). at port_key n c.ports ≡ Some linked) (sym (at_key port_key (port_on channel).0 c.ports linked found)) found)
        (same_channel (on_link channel) default_channel) e

    by_gsmp : (b : Bool) → (if b then Some ForGsmp else taker_at (linked_at c (port_on channel)) (on_link channel)) ≡ Some taker → OwnTaker c.ports taker
    by_gsmp true e = (let same : ForGsmp ≡ taker = cc in subst (OwnTaker c.ports) same tt)
    by_gsmp false e = by_linked (linked_at c (port_on channel)) refl e

-- *A cell is taken* by a chain, and all others are as they were
pub taker_set : (a : Acted) (taker : Taker) (x : Reassembly) → OwnTaker a.controller.ports taker → (h : Holder)
    → chains (with_reassembly a taker x).controller.reassembly (with_reassembly a taker x).controller.ports h ≡ (if same_holder h (holder_of taker) then x.chain else chains a.controller.reassembly a.controller.ports h)
taker_set a ForGsmp x own = gsmp_set a.controller.reassembly a.controller.ports x
taker_set a (ForDefault linked) x own = default_set a.controller.reassembly a.controller.ports linked own x
taker_set a (ForLabel linked label) x own = label_set a.controller.reassembly a.controller.ports linked own label.number x

-- a chain that a last cell ended holds nothing then
pub data EndsOr (t : Taken) : Type 0 where
  goes_on : t.ended ≡ [] → EndsOr t
  has_ended : t.reassembly.chain ≡ [] → EndsOr t

pub ends_or : (notes : Journal) (has_slot : Bool) (r : Reassembly) (cell : Cell) → EndsOr (taken notes has_slot r cell)
ends_or notes has_slot r cell = on_both EndsOr r.is_skipping (passed_over notes r cell) _ (goes_on refl)
    (on_both EndsOr (not has_slot) (without_slot notes r cell) _ (goes_on refl)
    (on_both EndsOr (nat_le most_cells (length r.chain)) (too_long notes r cell) (cell_joined notes r cell) (goes_on refl)
    (on_both EndsOr cell.header.last (record { reassembly = record r { chain = [] }; notes = notes; ended = r.chain ++ cell ∷ [] }) (record { reassembly = record r { chain = r.chain ++ cell ∷ [] }; notes = notes; ended = [] })
    (has_ended refl) (goes_on refl))))
