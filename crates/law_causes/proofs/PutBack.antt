-- what a channel of a controller has made of a cell is put back

use Rattle.std.proofs.Common.{◌≡◌, ◌≢◌, ℕ, Bool, true, false, List, Option, None, Some, refl, sym, ◌∙◌, ap, ap₂, subst, if◌then◌else◌}
use Rattle.std.specs.Prelude.{is_some}
use Rattle.std.specs.Option.{option_and_then}
use Rattle.law_cell_lists.specs.world_model.Words.{Channel, channel_on_control, label_number_of, Reassembly, at, put, Label, label_number, is_bound, label_at, labels_of, Controller, Linked, port_key, chains_with, default_channel, ForGsmp, ForDefault, ForLabel, port_on, on_link, same_channel, label_taker, taker_at, taker_of, with_reassembly}
use Rattle.law_controller_bindings.proofs.law_port_facts.Keyed.{at_key}
use Rattle.law_cell_lists.specs.world_model.Controller.{Acted}
use Rattle.law_cell_lists.specs.world_model.Cells.{Taker}
use Rattle.law_causes.proofs.Spots.{channels_are, channels_apart}
use Rattle.law_causes.proofs.Ends.{label_chain, chain_at, chain_in, open_in, put_same, put_new, taken_by_port, chain_here, chain_there, label_link, control_parts}

pub record PutBack (c : Controller) (channel : Channel) (x : Reassembly) (d : Controller) : Type 0 where
  pub queue : d.queue ≡ c.queue
  pub node : d.node ≡ c.node
  pub adjacency : d.adjacency ≡ c.adjacency
  pub here : chain_in d.reassembly d.ports channel ≡ x
  pub away : (e : Channel) → channel ≢ e → chain_in d.reassembly d.ports e ≡ chain_in c.reassembly c.ports e
  pub taken : (e : Channel) → open_in d.ports e ≡ open_in c.ports e

-- a channel's port and its channel on the link tell it
one_channel : (a b : Channel) → (port_on a).0 ≡ (port_on b).0 → on_link a ≡ on_link b → a ≡ b
one_channel a b port link = sym (control_parts a) ∙ ap₂ (λ (q : ℕ) (l : Channel). channel_on_control (record { 0 = q }) l) port link ∙ control_parts b

chain_like : (r : Reassembly) (p o : List Linked) (e : Channel) → chain_at (at port_key (port_on e).0 o) (on_link e) ≡ chain_at (at port_key (port_on e).0 p) (on_link e) → chain_in r o e ≡ chain_in r p e
chain_like r p o e same = ap (λ (y : Reassembly). if same_channel e default_channel then r else y) same

open_like : (p o : List Linked) (e : Channel) → is_some (taker_at (at port_key (port_on e).0 o) (on_link e)) ≡ is_some (taker_at (at port_key (port_on e).0 p) (on_link e)) → open_in o e ≡ open_in p e
open_like p o e same = by (same_channel e default_channel)
  where
    by : (v : Bool) → is_some (if v then Some ForGsmp else taker_at (at port_key (port_on e).0 o) (on_link e)) ≡ is_some (if v then Some ForGsmp else taker_at (at port_key (port_on e).0 p) (on_link e))
    by true = refl
    by false = same

module _ (a : Acted) (channel : Channel) (x : Reassembly) where
  abbrev c : Controller
  c = a.controller

  back_gsmp : same_channel channel default_channel ≡ true → PutBack c channel x (with_reassembly a ForGsmp x).controller
  back_gsmp gsmp = record {
    queue = refl;
    node = refl;
    adjacency = refl;
    here = ap (λ (v : Bool). if v then x else chain_at (at port_key (port_on channel).0 c.ports) (on_link channel)) gsmp;
    away = λ e d. (let other : same_channel e default_channel ≡ false = channels_apart e default_channel (λ s. d (channels_are channel default_channel gsmp ∙ sym s)) in
        ap (λ (v : Bool). if v then x else chain_at (at port_key (port_on e).0 c.ports) (on_link e)) other ∙ sym (ap (λ (v : Bool). if v then c.reassembly else chain_at (at port_key (port_on e).0 c.ports) (on_link e)) other));
    taken = λ e. refl;
  }

  module _ (other : same_channel channel default_channel ≡ false) (linked : Linked) (found : at port_key (port_on channel).0 c.ports ≡ Some linked) where
    key : port_key linked ≡ (port_on channel).0
    key = at_key port_key (port_on channel).0 c.ports linked found

    own : at port_key (port_key linked) c.ports ≡ Some linked
    own = subst (λ (q : ℕ). at port_key q c.ports ≡ Some linked) (sym key) found

    back_default : same_channel (on_link channel) default_channel ≡ true → PutBack c channel x (with_reassembly a (ForDefault linked) x).controller
    back_default default =
        let new : Linked = record linked { reassembly = x } in
        record {
          queue = refl;
          node = refl;
          adjacency = refl;
          here = ap (λ (v : Bool). if v then c.reassembly else chain_at (at port_key (port_on channel).0 (put port_key new c.ports)) (on_link channel)) other
              ∙ put_new new linked c.ports own (λ o. chain_at o (on_link channel)) (port_on channel).0 key
              ∙ ap (λ (v : Bool). if v then x else label_chain new (label_number_of (on_link channel))) default;
          away = λ e d. chain_like c.reassembly c.ports (put port_key new c.ports) e (put_same new linked c.ports own (λ o. chain_at o (on_link e)) (port_on e).0 (λ h. by e d h (same_channel (on_link e) default_channel) refl));
          taken = λ e. open_like c.ports (put port_key new c.ports) e (put_same new linked c.ports own (λ o. is_some (taker_at o (on_link e))) (port_on e).0 (λ h. taken_by_port new linked (on_link e) refl));
        }
      where
        by : (e : Channel) → channel ≢ e → port_key linked ≡ (port_on e).0 → (v : Bool) → same_channel (on_link e) default_channel ≡ v
            → (if v then x else label_chain (record linked { reassembly = x }) (label_number_of (on_link e))) ≡ (if v then linked.reassembly else label_chain linked (label_number_of (on_link e)))
        by e d h true is = absurd (d (one_channel channel e (sym key ∙ h) (channels_are (on_link channel) default_channel default ∙ sym (channels_are (on_link e) default_channel is))))
        by e d h false is = refl

    back_label : same_channel (on_link channel) default_channel ≡ false → (label : Label) → label_number_of (on_link channel) ≡ Some label.number → PutBack c channel x (with_reassembly a (ForLabel linked label) x).controller
    back_label not_default label number =
        let new : Linked = record linked { chains = chains_with linked.chains label.number x } in
        record {
          queue = refl;
          node = refl;
          adjacency = refl;
          here = ap (λ (v : Bool). if v then c.reassembly else chain_at (at port_key (port_on channel).0 (put port_key new c.ports)) (on_link channel)) other
              ∙ put_new new linked c.ports own (λ o. chain_at o (on_link channel)) (port_on channel).0 key
              ∙ ap (λ (v : Bool). if v then linked.reassembly else label_chain new (label_number_of (on_link channel))) not_default
              ∙ ap (label_chain new) number ∙ chain_here linked.chains label.number x;
          away = λ e d. chain_like c.reassembly c.ports (put port_key new c.ports) e (put_same new linked c.ports own (λ o. chain_at o (on_link e)) (port_on e).0 (λ h. by_default e d h (same_channel (on_link e) default_channel)));
          taken = λ e. open_like c.ports (put port_key new c.ports) e (put_same new linked c.ports own (λ o. is_some (taker_at o (on_link e))) (port_on e).0 (λ h. taken_by_port new linked (on_link e) refl));
        }
      where
        by_number : (e : Channel) → channel ≢ e → port_key linked ≡ (port_on e).0 → (m : Option ℕ) → label_number_of (on_link e) ≡ m → label_chain (record linked { chains = chains_with linked.chains label.number x }) m ≡ label_chain linked m
        by_number e d h None is = refl
        by_number e d h (Some m) is = chain_there linked.chains label.number m x
            (λ same. d (one_channel channel e (sym key ∙ h) ((label_link (on_link channel) label.number number).0 ∙ sym (label_link (on_link e) label.number (is ∙ ap Some (sym same))).0)))

        by_default : (e : Channel) → channel ≢ e → port_key linked ≡ (port_on e).0 → (v : Bool)
            → (if v then linked.reassembly else label_chain (record linked { chains = chains_with linked.chains label.number x }) (label_number_of (on_link e))) ≡ (if v then linked.reassembly else label_chain linked (label_number_of (on_link e)))
        by_default e d h true = refl
        by_default e d h false = by_number e d h (label_number_of (on_link e)) refl

  pub put_back : (taker : Taker) → taker_of c channel ≡ Some taker → PutBack c channel x (with_reassembly a taker x).controller
  put_back taker e = by_gsmp (same_channel channel default_channel) refl e
    where
      by_bound : (other : same_channel channel default_channel ≡ false) (linked : Linked) → at port_key (port_on channel).0 c.ports ≡ Some linked → same_channel (on_link channel) default_channel ≡ false → (label : Label)
          → label_number_of (on_link channel) ≡ Some label.number → (v : Bool) → (if v then Some (ForLabel linked label) else None) ≡ Some taker → PutBack c channel x (with_reassembly a taker x).controller
      by_bound other linked found nd label number true h = (let at : ForLabel linked label ≡ taker = cc in subst (λ (k : Taker). PutBack c channel x (with_reassembly a k x).controller) at (back_label other linked found nd label number))
      by_bound other linked found nd label number false h = absurd (cc h)

      by_label : (other : same_channel channel default_channel ≡ false) (linked : Linked) → at port_key (port_on channel).0 c.ports ≡ Some linked → same_channel (on_link channel) default_channel ≡ false → (m : Option ℕ) → label_number_of (on_link channel) ≡ m
          → (o : Option Label) → option_and_then (label_at linked.port) m ≡ o → label_taker linked o ≡ Some taker → PutBack c channel x (with_reassembly a taker x).controller
      by_label other linked found nd None is o label h = absurd (let none : ◌≡◌ {A = Option Taker} None (Some taker) = ap (label_taker linked) label ∙ h in cc none)
      by_label other linked found nd (Some m) is None label h = absurd (cc h)
      by_label other linked found nd (Some m) is (Some label) at h =
          by_bound other linked found nd label (is ∙ ap Some (sym (at_key label_number m (labels_of linked.port) label at))) (is_bound label.state) h

      by_default : (other : same_channel channel default_channel ≡ false) (linked : Linked) → at port_key (port_on channel).0 c.ports ≡ Some linked → (v : Bool) → same_channel (on_link channel) default_channel ≡ v
          → (if v then Some (ForDefault linked) else label_taker linked (option_and_then (label_at linked.port) (label_number_of (on_link channel)))) ≡ Some taker → PutBack c channel x (with_reassembly a taker x).controller
      by_default other linked found true d h = (let at : ForDefault linked ≡ taker = cc in subst (λ (k : Taker). PutBack c channel x (with_reassembly a k x).controller) at (back_default other linked found d))
      by_default other linked found false d h = by_label other linked found d (label_number_of (on_link channel)) refl (option_and_then (label_at linked.port) (label_number_of (on_link channel))) refl h

      by_linked : (other : same_channel channel default_channel ≡ false) (o : Option Linked) → at port_key (port_on channel).0 c.ports ≡ o → taker_at o (on_link channel) ≡ Some taker → PutBack c channel x (with_reassembly a taker x).controller
      by_linked other None found h = absurd (cc h)
      by_linked other (Some linked) found h = by_default other linked found (same_channel (on_link channel) default_channel) refl h

      by_gsmp : (v : Bool) → same_channel channel default_channel ≡ v → (if v then Some ForGsmp else taker_at (at port_key (port_on channel).0 c.ports) (on_link channel)) ≡ Some taker → PutBack c channel x (with_reassembly a taker x).controller
      by_gsmp true g h = (let at : ForGsmp ≡ taker = cc in subst (λ (k : Taker). PutBack c channel x (with_reassembly a k x).controller) at (back_gsmp g))
      by_gsmp false g h = by_linked g (at port_key (port_on channel).0 c.ports) refl h
