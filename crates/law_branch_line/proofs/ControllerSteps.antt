-- each thing that the controller says, and each reset of it, keeps the invariant

use Rattle.std.proofs.Common.{◌≡◌, ℕ, zero, suc, ◌+◌, Bool, true, false, Option, Some, None, List, [], ◌∷◌, find, filter, not, replicate, refl, append-nil, arith, if◌then◌else◌}
use Rattle.net_types.specs.declared.adjacency.HelloKind.{HelloKind}
use Rattle.net_types.specs.declared.adjacency.HelloKind.TheVariants.{Syn, Synack, Rstack, Ack}
use Rattle.adjacency_table.specs.Table.{Reply, Silent, Says, Resets}
use Rattle.ordered_lists.proofs.Every.{every_join}
use Rattle.ordered_lists.proofs.Found.{every_found}
use Rattle.ordered_lists.proofs.Parts.{part_whole, part_none, part_join, part_filtered, every_part}
use Rattle.law_branch_line.specs.Words.{DeleteAll, Request, OnInput, Elsewhere, delete_all, ToSwitch, ControllerGreets, Copy}
use Rattle.law_branch_line.specs.Line.{spoken, Asked, Apart, Unasked, Stands, Answered, Other, Meeting, Emptying, Controller, Line, way_to_switch}
use Rattle.law_branch_line.specs.Asking.{say, number_taken, ask, ask_each, has_met, may_ask, since_asked, ask_freely, ask_again, is_numbered, ask_other_again, withdraw_other}
use Rattle.law_branch_line.specs.Controller.{reset_node, restart_node, tick_controller, deletes}
use Rattle.law_branch_line.proofs.Trip.{Down, Last}
use Rattle.law_branch_line.proofs.Kept.{IsIn, IsMeeting, IsOther, IsKept, with_trip, with_meeting, with_others, others_ask, others_go_on, other_now, in_step_on, numbered_later}
use Rattle.law_branch_line.proofs.Exchanges.{NamesOwn, asks, asks_other, repeats, repeats_other, controller_greets, node_resets}
use Rattle.law_branch_line.proofs.Stretches.{KeepsFor, at_end, at_rest, on_the_way}

-- it says something, and its record stays as it is
said : (w : Line) (m : ToSwitch) → KeepsFor w.controller (Last ∷ []) (Down m ∷ Last ∷ []) → IsKept w
    → IsKept (say w (m ∷ []))
said w m change kept =
    with_trip w.controller w.fresh _ _ kept (at_end w.controller w.controller w m change kept.good)

-- what it says by the table
greeted : (w : Line) (kind : HelloKind) (s r : ℕ) → NamesOwn kind w.controller.adjacency.own s → IsKept w
    → IsKept (say w (ControllerGreets kind s r ∷ []))
greeted w kind s r o kept =
    said w (ControllerGreets kind s r) (controller_greets _ _ _ kind s r kept.sound.own o) kept

silent : (w : Line) → IsKept w → IsKept (say w [])
silent w kept = with_trip w.controller w.fresh _ _ kept (rw append-nil kept.good)

pub spoken_kept : (w : Line) (answer : Reply) (s r : ℕ) → IsKept w
    → IsKept (say w (spoken ControllerGreets answer w.controller.adjacency s r))
spoken_kept w Silent s r kept = silent w kept
spoken_kept w Resets s r kept = silent w kept
spoken_kept w (Says Syn) s r kept = greeted w Syn w.controller.adjacency.own 0 refl kept
spoken_kept w (Says Synack) s r kept =
    greeted w Synack w.controller.adjacency.own w.controller.adjacency.stored refl kept
spoken_kept w (Says Ack) s r kept =
    greeted w Ack w.controller.adjacency.own w.controller.adjacency.stored refl kept
spoken_kept w (Says Rstack) s r kept = greeted w Rstack r s tt kept

pub reset_node_kept : (w : Line) → IsKept w → IsKept (reset_node w)
reset_node_kept w kept = record {
  good =
      at_rest w.controller (reset_node w).controller w
      (node_resets w.controller.adjacency.own w.controller.next w.fresh 1 w.controller.asked
      kept.sound.drawn) kept.good;
  sound = record {
    others = tt;
    own = omega (arith, kept.sound.drawn);
    drawn = omega arith;
    in_step = tt;
    numbered = tt;
    meeting = tt;
  };
}

pub restart_node_kept : (w : Line) → IsKept w → IsKept (restart_node w)
restart_node_kept w kept =
    reset_node_kept (record w { at_controller = [] }) (with_trip w.controller w.fresh _ _ kept
    (on_the_way w.controller w w.to_controller _ (part_join (part_none w.at_controller) (part_whole w.to_controller))
    (part_whole (way_to_switch w)) kept.good))

pub tick_controller_kept : (w : Line) (answer : Reply) → IsKept w → IsKept (tick_controller w answer)
tick_controller_kept w Resets kept = reset_node_kept w kept
tick_controller_kept w Silent kept = spoken_kept w Silent 0 0 kept
tick_controller_kept w (Says kind) kept = spoken_kept w (Says kind) 0 0 kept

-- a request is asked
pub ask_kept : (w : Line) (q : Request) → IsIn w.controller.asked
    → IsMeeting w.controller.meeting (number_taken w.controller q).asked → IsKept w → IsKept (ask w q)
ask_kept w (OnInput p) i m kept = record {
  good =
      at_end w.controller (number_taken w.controller (OnInput p)) w
      (Copy w.controller.adjacency.own w.controller.next (OnInput p)) (asks _ _ w.controller.asked p i)
      kept.good;
  sound = record {
    others =
        others_ask w.controller.adjacency.own w.controller.next w.controller.asked p w.controller.others i
        kept.sound.others;
    own = kept.sound.own;
    drawn = kept.sound.drawn;
    in_step =
        in_step_on w.controller.adjacency.state w.controller.asked w.controller.next p i kept.sound.in_step;
    numbered = omega arith;
    meeting = m;
  };
}
ask_kept w (Elsewhere t) i m kept = record {
  good =
      at_end w.controller (number_taken w.controller (Elsewhere t)) w
      (Copy w.controller.adjacency.own w.controller.next (Elsewhere t))
      (asks_other _ _ w.controller.asked t i kept.sound.numbered) kept.good;
  sound = record {
    others =
        every_join (IsOther w.controller.adjacency.own (w.controller.next + 1) w.controller.asked)
        w.controller.others _ (others_go_on w.controller.adjacency.own w.controller.next
        w.controller.asked w.controller.others i kept.sound.others) (
          other_now w.controller.adjacency.own w.controller.next t w.controller.asked i
              kept.sound.numbered,
          tt,
        );
    own = kept.sound.own;
    drawn = kept.sound.drawn;
    in_step = kept.sound.in_step;
    numbered = numbered_later w.controller.next w.controller.asked kept.sound.numbered;
    meeting = kept.sound.meeting;
  };
}

pub ask_each_kept : (w : Line) (requests : List Request) → IsIn w.controller.asked
    → ((a : Asked) → IsMeeting w.controller.meeting a) → IsKept w → IsKept (ask_each w requests)
ask_each_kept w [] i m kept = kept
ask_each_kept w (OnInput p ∷ requests) i m kept =
    ask_each_kept (ask w (OnInput p)) requests tt m
    (ask_kept w (OnInput p) i (m (Stands w.controller.next p)) kept)
ask_each_kept w (Elsewhere t ∷ requests) i m kept =
    ask_each_kept (ask w (Elsewhere t)) requests i m
    (ask_kept w (Elsewhere t) i (m w.controller.asked) kept)

-- once Delete All was asked of each port, the input's stands
deleting : (w : Line) (behind : ℕ) → IsMeeting Emptying w.controller.asked
    → IsMeeting Emptying (ask_each w (replicate behind (Elsewhere delete_all))).controller.asked
deleting w zero m = m
deleting w (suc behind) m = deleting (ask w (Elsewhere delete_all)) behind m

pub asked_to_empty : (w : Line) (before behind : ℕ)
    → IsMeeting Emptying (ask_each w (deletes before behind)).controller.asked
asked_to_empty w zero behind = deleting (ask w (OnInput DeleteAll)) behind tt
asked_to_empty w (suc before) behind = asked_to_empty (ask w (Elsewhere delete_all)) before behind

-- where something may be asked, the switch was met, so the controller is in Estab
allowed : (m : Meeting) (a : Asked) (q : Request) → may_ask m a q ≡ true → has_met m ≡ true
allowed m a q e = grind arith

met_in : (m : Meeting) (a : Asked) → has_met m ≡ true → IsMeeting m a → IsIn a
met_in m a e h = grind arith

-- it is noted that something was asked on the input
abbrev pub noting : Line → Request → Line
noting w q = record w { controller = record w.controller { meeting = since_asked w.controller.meeting q } }

noted_meeting : (m : Meeting) (a : Asked) (q : Request) → IsIn a → IsMeeting m a
    → IsMeeting (since_asked m q) a
noted_meeting m a q i h = grind arith

noted : (w : Line) (q : Request) → IsIn w.controller.asked → IsKept w → IsKept (noting w q)
noted w q i kept = record {
  good = kept.good;
  sound =
      with_meeting w.controller w.fresh (since_asked w.controller.meeting q)
      (noted_meeting w.controller.meeting w.controller.asked q i kept.sound.meeting) kept.sound;
}

still_meeting : (m : Meeting) (c : Controller) (q : Request) → IsMeeting m c.asked
    → IsMeeting (since_asked m q) (number_taken c q).asked
still_meeting m c q h = grind arith

pub ask_freely_kept : (w : Line) (q : Request) → IsKept w → IsKept (ask_freely w q)
ask_freely_kept w q kept = by (may_ask w.controller.meeting w.controller.asked q) refl
  where
    by : (may : Bool) → may_ask w.controller.meeting w.controller.asked q ≡ may
        → IsKept (if may then ask (noting w q) q else w)
    by true e =
        let i : IsIn w.controller.asked =
        met_in w.controller.meeting w.controller.asked
        (allowed w.controller.meeting w.controller.asked q e) kept.sound.meeting in
        ask_kept (noting w q) q i (still_meeting w.controller.meeting (noting w q).controller q
        kept.sound.meeting) (noted w q i kept)
    by false e = kept

pub ask_again_kept : (w : Line) (a : Asked) → w.controller.asked ≡ a → IsKept w → IsKept (ask_again w a)
ask_again_kept w Apart e kept = kept
ask_again_kept w Unasked e kept = kept
ask_again_kept w (Stands n p) e kept =
    said w (Copy w.controller.adjacency.own n (OnInput p))
    (rw e (repeats w.controller.adjacency.own w.controller.next n p (rw e at kept.sound.numbered))) kept
ask_again_kept w (Answered n p) e kept = kept

-- one of the others
pub ask_other_again_kept : (w : Line) (number : ℕ) (o : Option Other)
    → find (is_numbered number) w.controller.others ≡ o → IsKept w → IsKept (ask_other_again w o)
ask_other_again_kept w number None e kept = kept
ask_other_again_kept w number (Some o) e kept =
    said w (Copy w.controller.adjacency.own o.number (Elsewhere o.message_type))
    (repeats_other _ _ _ o.number o.message_type
    (every_found _ (is_numbered number) w.controller.others o e kept.sound.others)) kept

pub withdraw_other_kept : (w : Line) (number : ℕ) → IsKept w → IsKept (withdraw_other w number)
withdraw_other_kept w number kept = by (has_met w.controller.meeting)
  where
    left : List Other
    left = filter (λ other. not (is_numbered number other)) w.controller.others

    fewer : Line
    fewer = record w { controller = record w.controller { others = left } }

    by : (met : Bool) → IsKept (if met then fewer else w)
    by true =
        record {
          good = kept.good;
          sound = with_others w.controller w.fresh left
              (every_part _ (part_filtered (λ other. not (is_numbered number other)) w.controller.others)
              kept.sound.others) kept.sound;
        }
    by false = kept
