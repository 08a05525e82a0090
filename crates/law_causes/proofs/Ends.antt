-- what takes the cells of the control link's channels at a controller

use Rattle.std.proofs.Common.{◌≡◌, ◌≢◌, ℕ, suc, ◌<◌, ◌+◌, ◌*◌, Bool, true, false, true≢false, List, [], ◌∷◌, length, Option, None, Some, refl, sym, ◌∙◌, ap, ap₂, subst, arith, if◌then◌else◌}
use Rattle.std.specs.Prelude.{◌||◌, ◌/◌, ◌%◌, nat_lt, nat_eq, is_some}
use Rattle.std.specs.Option.{option_and_then, option_map_or}
use Rattle.std.proofs.lemmas.Bool.Decides.{nat_tests}
use Rattle.law_cell_lists.specs.world_model.Words.{PortNo, Channel, channel_on_control, label_channel_of, label_number_of, number_of_channel, is_label_channel, Cell, Reassembly, nothing_taken, at, put, without, entered, key_le, Label, label_number, is_bound, label_at, labels_of, Controller, LabelChain, Linked, port_key, chain_key, chain_of, chains_with, chain_slots, default_channel, ForGsmp, ForDefault, ForLabel, port_on, on_link, same_channel, label_taker, taker_at, taker_of, reassembly_of}
use Rattle.law_cell_lists.specs.world_model.port_model.Port.{Port}
use Rattle.law_controller_bindings.proofs.law_port_facts.Keyed.{by_eq, on_each, on_both, at_key, at_put_same, at_put_other}
use Rattle.law_cell_lists.specs.world_model.Cells.{Taker}
use Rattle.law_cell_lists.proofs.Net.{End, Takes, Closed}
use Rattle.law_causes.proofs.Spots.{same_spot}

-- *What a channel has made of its cells*, whether or not it is taken now
abbrev pub has_cells : Reassembly → Bool
has_cells r = r.is_skipping || nat_lt 0 (chain_slots r)

abbrev pub label_chain : Linked → Option ℕ → Reassembly
label_chain linked None = nothing_taken
label_chain linked (Some number) = chain_of linked.chains number

abbrev pub chain_at : Option Linked → (link : Channel) → Reassembly
chain_at None link = nothing_taken
chain_at (Some linked) link = if same_channel link default_channel then linked.reassembly else label_chain linked (label_number_of link)

abbrev pub chain_in : Reassembly → List Linked → Channel → Reassembly
chain_in r ports channel = if same_channel channel default_channel then r else chain_at (at port_key (port_on channel).0 ports) (on_link channel)

-- *Whether it is taken now*
abbrev pub open_in : List Linked → Channel → Bool
open_in ports channel = is_some (if same_channel channel default_channel then Some ForGsmp else taker_at (at port_key (port_on channel).0 ports) (on_link channel))

abbrev pub end_for : (is_open : Bool) → Reassembly → End same_spot
end_for is_open r = if is_open || has_cells r then Takes r else Closed

abbrev pub end_in : Reassembly → List Linked → Channel → End same_spot
end_in r ports channel = end_for (open_in ports channel) (chain_in r ports channel)

-- nothing was taken
pub nothing_is : (r : Reassembly) → has_cells r ≡ false → r ≡ nothing_taken
nothing_is r e = by_skipping r.is_skipping refl r.chain refl
  where
    by_skipping : (b : Bool) → r.is_skipping ≡ b → (cells : List Cell) → r.chain ≡ cells → r ≡ nothing_taken
    by_skipping true s cells is = absurd (true≢false (sym (ap (λ (b : Bool). b || nat_lt 0 (chain_slots r)) s) ∙ e))
    by_skipping false s [] is = ap₂ (λ (cells : List Cell) (b : Bool). record { chain = cells; is_skipping = b }) is s
    by_skipping false s (c ∷ cells) is = absurd (true≢false (sym (ap₂ (λ (b : Bool) (cells : List Cell). b || nat_lt 0 (length cells)) s is ∙ some (length cells)) ∙ e))
      where
        some : (n : ℕ) → nat_lt 0 (suc n) ≡ true
        some n = grind (arith, nat_tests)

-- who takes a channel has made this of it
pub taken_chain : (c : Controller) (channel : Channel) (taker : Taker) → taker_of c channel ≡ Some taker → reassembly_of c taker ≡ chain_in c.reassembly c.ports channel
taken_chain c channel taker e = by_gsmp (same_channel channel default_channel) e
  where
    by_label : (linked : Linked) (link : Channel) (n : Option ℕ) (o : Option Label) → ((label : Label) → o ≡ Some label → n ≡ Some label.number) → label_taker linked o ≡ Some taker → reassembly_of c taker ≡ label_chain linked n
    by_label linked link n None is e = absurd (cc e)
    by_label linked link n (Some label) is e = by_bound (is_bound label.state) e
      where
        by_bound : (b : Bool) → (if b then Some (ForLabel linked label) else None) ≡ Some taker → reassembly_of c taker ≡ label_chain linked n
        by_bound true e = (let same : ForLabel linked label ≡ taker = cc in ap (reassembly_of c) (sym same) ∙ ap (label_chain linked) (sym (is label refl)))
        by_bound false e = absurd (cc e)

    number_is : (linked : Linked) (n : Option ℕ) (label : Label) → option_and_then (label_at linked.port) n ≡ Some label → n ≡ Some label.number
    number_is linked None label e = absurd (cc e)
    number_is linked (Some n) label e = ap Some (sym (label_key linked.port n label e))
      where
        label_key : (port : Port) (n : ℕ) (label : Label) → label_at port n ≡ Some label → label.number ≡ n
        label_key port n label e = at_key label_number n (labels_of port) label e

    by_default : (linked : Linked) (link : Channel) (b : Bool) → (if b then Some (ForDefault linked) else label_taker linked (option_and_then (label_at linked.port) (label_number_of link))) ≡ Some taker
        → reassembly_of c taker ≡ (if b then linked.reassembly else label_chain linked (label_number_of link))
    by_default linked link true e = (let same : ForDefault linked ≡ taker = cc in ap (reassembly_of c) (sym same))
    by_default linked link false e = by_label linked link (label_number_of link) (option_and_then (label_at linked.port) (label_number_of link)) (number_is linked (label_number_of link)) e

    by_linked : (o : Option Linked) (link : Channel) → taker_at o link ≡ Some taker → reassembly_of c taker ≡ chain_at o link
    by_linked None link e = absurd (cc e)
    by_linked (Some linked) link e = by_default linked link (same_channel link default_channel) e

    by_gsmp : (b : Bool) → (if b then Some ForGsmp else taker_at (at port_key (port_on channel).0 c.ports) (on_link channel)) ≡ Some taker
        → reassembly_of c taker ≡ (if b then c.reassembly else chain_at (at port_key (port_on channel).0 c.ports) (on_link channel))
    by_gsmp true e = (let same : ForGsmp ≡ taker = cc in ap (reassembly_of c) (sym same))
    by_gsmp false e = by_linked (at port_key (port_on channel).0 c.ports) (on_link channel) e

-- *A port is put in its place*
module _ (new old : Linked) (ports : List Linked) (found : at port_key (port_key new) ports ≡ Some old) where
  at_here : (n : ℕ) → port_key new ≡ n → at port_key n (put port_key new ports) ≡ Some new
  at_here n e = subst (λ k. at port_key k (put port_key new ports) ≡ Some new) e (at_put_same port_key new ports old found)

  was_here : (n : ℕ) → port_key new ≡ n → at port_key n ports ≡ Some old
  was_here n e = subst (λ k. at port_key k ports ≡ Some old) e found

  -- what is found of it by a function of the port
  pub put_same : {A : Type 0} (f : Option Linked → A) (n : ℕ) → (port_key new ≡ n → f (Some new) ≡ f (Some old)) → f (at port_key n (put port_key new ports)) ≡ f (at port_key n ports)
  put_same f n same = by_eq (port_key new) n (λ e t. ap f (at_here n e) ∙ same e ∙ ap f (sym (was_here n e))) (λ d t. ap f (at_put_other port_key new n ports d))

  pub put_new : {A : Type 0} (f : Option Linked → A) (n : ℕ) → port_key new ≡ n → f (at port_key n (put port_key new ports)) ≡ f (Some new)
  put_new f n e = ap f (at_here n e)

  pub put_old : {A : Type 0} (f : Option Linked → A) (n : ℕ) → port_key new ≡ n → f (at port_key n ports) ≡ f (Some old)
  put_old f n e = ap f (was_here n e)

-- what is taken of a port goes by its labels
pub taken_by_port : (new old : Linked) (link : Channel) → new.port ≡ old.port → is_some (taker_at (Some new) link) ≡ is_some (taker_at (Some old) link)
taken_by_port new old link same = by_default (same_channel link default_channel)
  where
    by_label : (o : Option Label) → is_some (label_taker new o) ≡ is_some (label_taker old o)
    by_label None = refl
    by_label (Some label) = by_bound (is_bound label.state)
      where
        by_bound : (b : Bool) → is_some (if b then Some (ForLabel new label) else None) ≡ is_some (if b then Some (ForLabel old label) else None)
        by_bound true = refl
        by_bound false = refl

    by_default : (b : Bool) → is_some (if b then Some (ForDefault new) else label_taker new (option_and_then (label_at new.port) (label_number_of link)))
        ≡ is_some (if b then Some (ForDefault old) else label_taker old (option_and_then (label_at old.port) (label_number_of link)))
    by_default true = refl
    by_default false = ap (λ (p : Port). is_some (label_taker new (option_and_then (label_at p) (label_number_of link)))) same ∙ by_label (option_and_then (label_at old.port) (label_number_of link))

-- *The chains of labels* by their numbers
without_here : (n : ℕ) (chains : List LabelChain) → at chain_key n (without chain_key n chains) ≡ None
without_here n [] = refl
without_here n (c ∷ chains) = on_each (λ (l : List LabelChain). at chain_key n l ≡ None) (nat_eq (chain_key c) n) (without chain_key n chains) (c ∷ without chain_key n chains)
    (λ t. without_here n chains) (λ t. ap (λ (b : Bool). if b then Some c else at chain_key n (without chain_key n chains)) t ∙ without_here n chains)

without_other : (n m : ℕ) (chains : List LabelChain) → n ≢ m → at chain_key m (without chain_key n chains) ≡ at chain_key m chains
without_other n m [] d = refl
without_other n m (c ∷ chains) d = on_each (λ (l : List LabelChain). at chain_key m l ≡ at chain_key m (c ∷ chains)) (nat_eq (chain_key c) n) (without chain_key n chains) (c ∷ without chain_key n chains)
    (λ t. without_other n m chains d ∙ sym (by_eq (chain_key c) m (λ e u. absurd (d (grind (arith, nat_tests, t, e)))) (λ a u. ap (λ (b : Bool). if b then Some c else at chain_key m chains) u)))
    (λ t. ap (λ (o : Option LabelChain). if nat_eq (chain_key c) m then Some c else o) (without_other n m chains d))

entered_here : (le : LabelChain → LabelChain → Bool) (y : LabelChain) (chains : List LabelChain) → at chain_key (chain_key y) chains ≡ None → at chain_key (chain_key y) (entered le y chains) ≡ Some y
entered_here le y [] none = ap (λ (b : Bool). if b then Some y else None) (own (chain_key y))
  where
    own : (n : ℕ) → nat_eq n n ≡ true
    own n = grind (arith, nat_tests)
entered_here le y (c ∷ chains) none = on_both (λ (l : List LabelChain). at chain_key (chain_key y) l ≡ Some y) (le y c) (y ∷ c ∷ chains) (c ∷ entered le y chains)
    (ap (λ (b : Bool). if b then Some y else at chain_key (chain_key y) (c ∷ chains)) (own (chain_key y)))
    (by_eq (chain_key c) (chain_key y) (λ e t. absurd (let clash : Some c ≡ None = sym (ap (λ (b : Bool). if b then Some c else at chain_key (chain_key y) chains) t) ∙ none in cc clash))
    (λ d t. ap (λ (b : Bool). if b then Some c else at chain_key (chain_key y) (entered le y chains)) t
    ∙ entered_here le y chains (sym (ap (λ (b : Bool). if b then Some c else at chain_key (chain_key y) chains) t) ∙ none)))
  where
    own : (n : ℕ) → nat_eq n n ≡ true
    own n = grind (arith, nat_tests)

entered_other : (le : LabelChain → LabelChain → Bool) (y : LabelChain) (m : ℕ) (chains : List LabelChain) → chain_key y ≢ m → at chain_key m (entered le y chains) ≡ at chain_key m chains
entered_other le y m [] d = by_eq (chain_key y) m (λ e t. absurd (d e)) (λ a t. ap (λ (b : Bool). if b then Some y else None) t)
entered_other le y m (c ∷ chains) d = on_both (λ (l : List LabelChain). at chain_key m l ≡ at chain_key m (c ∷ chains)) (le y c) (y ∷ c ∷ chains) (c ∷ entered le y chains)
    (by_eq (chain_key y) m (λ e t. absurd (d e)) (λ a t. ap (λ (b : Bool). if b then Some y else at chain_key m (c ∷ chains)) t))
    (ap (λ (o : Option LabelChain). if nat_eq (chain_key c) m then Some c else o) (entered_other le y m chains d))

pub chain_here : (chains : List LabelChain) (label : ℕ) (r : Reassembly) → chain_of (chains_with chains label r) label ≡ r
chain_here chains label r = on_each (λ (l : List LabelChain). chain_of l label ≡ r) (has_cells r) (entered (key_le chain_key) (record { label = label; reassembly = r }) (without chain_key label chains)) (without chain_key label chains)
    (λ t. ap (λ (o : Option LabelChain). option_map_or (λ (c : LabelChain). c.reassembly) o nothing_taken) (entered_here (key_le chain_key) (record { label = label; reassembly = r }) (without chain_key label chains) (without_here label chains)))
    (λ t. ap (λ (o : Option LabelChain). option_map_or (λ (c : LabelChain). c.reassembly) o nothing_taken) (without_here label chains) ∙ sym (nothing_is r t))

pub chain_there : (chains : List LabelChain) (label other : ℕ) (r : Reassembly) → label ≢ other → chain_of (chains_with chains label r) other ≡ chain_of chains other
chain_there chains label other r d = ap (λ (o : Option LabelChain). option_map_or (λ (c : LabelChain). c.reassembly) o nothing_taken)
    (on_both (λ (l : List LabelChain). at chain_key other l ≡ at chain_key other chains) (has_cells r) (entered (key_le chain_key) (record { label = label; reassembly = r }) (without chain_key label chains)) (without chain_key label chains)
    (entered_other (key_le chain_key) (record { label = label; reassembly = r }) other (without chain_key label chains) d ∙ without_other label other chains d)
    (without_other label other chains d))

-- *The channel of a label* on the control link
pub label_link : (link : Channel) (n : ℕ) → label_number_of link ≡ Some n → (link ≡ label_channel_of n) × (is_label_channel link ≡ true)
label_link link n e = by (is_label_channel link) refl e
  where
    fields : (vpi vci : ℕ) → vci < 1024 → ((vpi * 1024 + vci) / 1024 ≡ vpi) × ((vpi * 1024 + vci) % 1024 ≡ vci)
    fields vpi vci low = (omega (arith, low), omega (arith, low))

    low_vci : is_label_channel link ≡ true → link.vci < 1024
    low_vci t = grind (arith, nat_tests)

    by : (b : Bool) → is_label_channel link ≡ b → (if b then Some (number_of_channel link) else None) ≡ Some n → (link ≡ label_channel_of n) × (is_label_channel link ≡ true)
    by true t e =
        let same : number_of_channel link ≡ n = cc in
        let both = fields link.vpi link.vci (low_vci t) in
        (ap₂ (λ (x y : ℕ). record { vpi = x; vci = y }) (sym both.0) (sym both.1) ∙ ap label_channel_of same, t)
    by false t e = absurd (cc e)

-- a channel of the control link by its port and its channel on the link
pub control_parts : (channel : Channel) → channel_on_control (port_on channel) (on_link channel) ≡ channel
control_parts channel = ap₂ (λ (x y : ℕ). record { vpi = x; vci = y }) (parts channel.vpi) refl
  where
    parts : (n : ℕ) → 16 * (n / 16) + n % 16 ≡ n
    parts n = omega arith

pub parts_of_control : (port : PortNo) (link : Channel) → link.vpi < 16 → ((port_on (channel_on_control port link)).0 ≡ port.0) × (on_link (channel_on_control port link) ≡ link)
parts_of_control port link low = ((first port.0 link.vpi low), ap (λ (x : ℕ). record link { vpi = x }) (second port.0 link.vpi low))
  where
    first : (p v : ℕ) → v < 16 → (16 * p + v) / 16 ≡ p
    first p v low = omega (arith, low)

    second : (p v : ℕ) → v < 16 → (16 * p + v) % 16 ≡ v
    second p v low = omega (arith, low)
