-- a port that holds no label, under a policy that offers nothing: a packet that it counts and an answer of the switch leave it so

use Rattle.std.proofs.Common.{◌≡◌, ℕ, Bool, true, false, List, [], Option, None, Some, refl, sym, ◌∙◌, subst, if◌then◌else◌, inr}
use Rattle.std.specs.Prelude.{◌==◌, ◌&&◌}
use Rattle.std.specs.Option.{option_map_or}
use Rattle.world_model.specs.Words.{NodeId, Addr, End, label_number_of, FlowId, AddBranch, Redirect, Reclaim, ReclaimAck, LabelRange, Error, Desk, Setup, Label, LabelState, Wiring, Offered, Recalled, Wired, label_for, lowest_spare, grant_on, counted_once, packets_in, Session, Work, with_session, label_at, has_room, label_by, packet_flow, wires, counts_flow, counts_by, counts, started, bound, OffersNothing}
use Rattle.world_model.specs.ifmp_wire.declared.message.Message.{Message}
use Rattle.world_model.specs.ifmp_wire.declared.message.Message.TheVariants.{Adjacency}
use Rattle.law_run_facts.specs.ordered_lists.Ordered.{Every}
use Rattle.world_model.specs.port_model.Port.{Port}
use Rattle.world_model.specs.port_model.Answers.{done}
use Rattle.law_run_facts.proofs.law_port_facts.Found.{find_every}
use Rattle.law_port_words.specs.Words.{Terms, StandsAs, Stands}
use Rattle.law_port_words.proofs.Voices.{Voiced, session_v, found_v}
use Rattle.law_port_words.proofs.Hearing.{Agrees, done_v}

-- *The words* for a node whose ports hold no label: none is held, wired or bound, and all else may be
abbrev pub idle_terms : NodeId → Addr → Terms
idle_terms node address = record {
  node = node;
  address = address;
  own = λ port instance. Unit {0};
  told = λ port instance. Unit {0};
  known = λ port instance. Unit {0};
  granted = λ port label flow. Unit {0};
  held = λ port label flow. ⊥;
  wired = λ port label flow. ⊥;
  offered = λ port label flow. Unit {0};
  bindable = λ port label flow. ⊥;
  refused = λ code. Unit {0};
  framed = λ frame. Unit {0};
  gathered = λ port cell. Unit {0};
  waited = λ cell. Unit {0};
}

module _ (node : NodeId) (address : Addr) (setup : Setup) where
  abbrev t : Terms
  t = idle_terms node address

  abbrev V : Work → Type 0
  V w = Voiced t setup w

  speaks : (instance : ℕ) → t.own setup.port instance → t.told setup.port instance
  speaks instance h = h

  -- a port agrees to each message
  pub agrees : (port : Port) (message : Message) → Agrees t setup port message
  agrees port (Adjacency hello) = λ e. tt
  agrees port (Redirect sender peer number lifetime channel flow) = ((λ label named inside. tt), (λ e. tt))
  agrees port (Reclaim sender peer number channel flow) = λ grant e. inr tt
  agrees port (ReclaimAck sender peer number channel flow) = tt
  agrees port (LabelRange sender peer number least greatest) = tt
  agrees port (Error sender peer number code channel) = tt

  none_stands : (label : Label) → Stands t setup.port label → ⊥
  none_stands label h = by label.state h
    where
      by : (state : LabelState) → StandsAs t setup.port label.number label.flow state → ⊥
      by Wiring h = h
      by Offered h = h
      by (Recalled last acknowledged) h = h
      by Wired h = h

  -- *A packet* is counted, and no label is taken for its flow
  module _ (offers : OffersNothing setup.policy) (desk : Desk) where
    counts_flow_i : (w : Work) (s : Session) (flow : FlowId) (o : Option Label) → w.port.session ≡ Some s → ((label : Label) → o ≡ Some label → Stands t setup.port label)
        → V w → V (counts_flow setup desk w s flow o)
    counts_flow_i w s flow (Some label) is found h = absurd (none_stands label (found label refl))
    counts_flow_i w s flow None is found h =
        let now : Session = record s { counted = counted_once s.counted flow } in
        let counted : Work = with_session w (λ old. now) in
        subst (λ (b : Bool). V (if b && has_room desk counted then wires setup counted flow (lowest_spare setup now.least now.greatest now.labels) else counted)) (sym (offers flow (packets_in now.counted flow)))
        (session_v t setup speaks w (λ old. now) (λ old e all. subst (λ (x : Session). Every (Stands t setup.port) x.labels) (one_session old s (sym e ∙ is)) all) h)
      where
        one_session : (x y : Session) → Some x ≡ Some y → x ≡ y
        one_session x y e = cc e

    pub counts_i : (w : Work) (packet : List ℕ) → V w → V (counts setup desk w packet)
    counts_i w packet h = by w.port.session refl (packet_flow packet)
      where
        by : (o : Option Session) → w.port.session ≡ o → (flow : Option FlowId) → V (counts_by setup desk w o flow)
        by None is flow = h
        by (Some s) is None = h
        by (Some s) is (Some flow) = counts_flow_i w s flow (label_for s.labels flow) is
            (λ label e. find_every (Stands t setup.port) _ s.labels label (subst (λ (o : Option Session). Every (Stands t setup.port) (option_map_or (λ (s : Session). s.labels) o [])) is h.port.labels) e) h

  -- *An answer* to Add Branch starts a grant, and finds no label to bind
  bound_i : (w : Work) (number : Option ℕ) → V w → V (bound setup w (label_by w.port number))
  bound_i w None h = h
  bound_i w (Some number) h = by (label_at w.port number) refl
    where
      by : (o : Option Label) → label_at w.port number ≡ o → V (bound setup w o)
      by None found = h
      by (Some label) found = absurd (none_stands label (found_v t setup speaks w number label found h))

  pub added_i : (w : Work) (input output : End) → V w → V (done setup w (AddBranch input output))
  added_i w input output h = by (input.port.0 == 0) refl
    where
      Done : Bool → Type 0
      Done b = V (if b then started w (grant_on w.port.grants (label_number_of output.channel)) else bound setup w (label_by w.port (label_number_of input.channel)))

      by : (b : Bool) → (input.port.0 == 0) ≡ b → Done b
      by true e = subst Done e (done_v t setup speaks w (AddBranch input output) e h)
      by false e = bound_i w (label_number_of input.channel) h
