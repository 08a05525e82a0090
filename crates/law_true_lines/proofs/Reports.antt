-- each front of a report has true lines alone

use Rattle.std.proofs.Common.{◌≡◌, ℕ, suc, List, [], ◌∷◌, ◌++◌, append_assoc, append-nil, refl, sym, ◌∙◌, ap, subst, arith}
use Rattle.std.specs.Prelude.{Contains}
use Rattle.std.proofs.lemmas.List.Concat.{flat_map-cons}
use Rattle.lab_text.specs.Lines.{lines_of}
use Rattle.world_model.specs.Words.{Record, Policy, Topology, Node, World, opens_each, with_opened, empty_world, next, worlds_from, world_after, run, records_of}
use Rattle.ordered_lists.specs.Ordered.{Every}
use Rattle.ordered_lists.proofs.Every.{every_join}
use Rattle.world_model.specs.network_model.declared.event.Event.{Event}
use Rattle.world_model.specs.World.{opened}
use Rattle.script_model.specs.Records.{record_line}
use Rattle.script_model.specs.Reports.{last_line}
use Rattle.script_model.specs.Script.{Script}
use Rattle.law_true_lines.specs.Lines.{IsTrueLine, tells_of, ends}
use Rattle.law_true_lines.specs.Law.{IsTrueOf, FrontsAreTrue, LastLinesAreTrue}
use Rattle.law_true_lines.proofs.Texts.{IsLine}
use Rattle.law_true_lines.proofs.Fronts.{all_of, WhereWhole, HoldInFronts, fronts_none, fronts_more, fronts_each}
use Rattle.law_true_lines.proofs.Words.{record_is, last_is}
use Rattle.law_true_lines.proofs.Claimed.{claimed}

-- what is so of each record that a list contains
each_in : (P : Record → Type 0) (items : List Record) → ((item : Record) → Contains items item → P item) → Every P items
each_in P [] f = tt
each_in P (x ∷ items) f = (f x (0, omega arith, refl), each_in P items (λ item has. f item (suc has.0, omega (arith, has.1), has.2)))

opens_none : (policy : Policy) (t : Topology) (nodes : List Node) (w : World) (place : ℕ) → (opens_each policy t w place nodes).notes.records ≡ w.notes.records
opens_none policy t [] w place = refl
opens_none policy t (node ∷ nodes) w place = opens_none policy t nodes (with_opened policy t w place node) (suc place)

after_more : (t : Topology) (w : World) (before : List Event) (event : Event) → world_after t w (before ++ event ∷ []) ≡ next t (world_after t w before) event
after_more t w [] event = refl
after_more t w (first ∷ before) event = after_more t (next t w first) before event

module _ (policy : Policy) (script : Script) (true_of : IsTrueOf policy script) where
  abbrev t : Topology
  t = script.topology

  abbrev IsTold : Record → Type 0
  IsTold item = IsLine (record_line t item) × IsTrueLine policy script (record_line t item)

  -- *The records of an event*, and of all
  of_event : (before : List Event) (event : Event) (after : List Event) → script.events ≡ before ++ event ∷ after
      → Every IsTold (next t (world_after t (opened policy t) before) event).notes.records
  of_event before event after split = each_in IsTold (next t (world_after t (opened policy t) before) event).notes.records
      (λ item has. (
        record_is t true_of.names item,
        tells_of (record {
          before = before;
          event = event;
          after = after;
          item = item;
          events = split;
          made = has;
          written = refl;
          claim = claimed policy script true_of before event after split item has;
        }),
      ))

  of_worlds : (events before : List Event) (w : World) → w ≡ world_after t (opened policy t) before → script.events ≡ before ++ events → Every IsTold w.notes.records
      → Every IsTold (records_of (worlds_from t w events))
  of_worlds [] before w is split told = subst (Every IsTold) (sym (append-nil w.notes.records)) told
  of_worlds (event ∷ events) before w is split told =
      let now : next t (world_after t (opened policy t) before) event ≡ next t w event = ap (λ (v : World). next t v event) (sym is) in
      subst (Every IsTold) (sym (flat_map-cons (λ (v : World). v.notes.records) w (worlds_from t (next t w event) events)))
      (every_join IsTold w.notes.records (records_of (worlds_from t (next t w event) events)) told
      (of_worlds events (before ++ event ∷ []) (next t w event) (sym now ∙ sym (after_more t (opened policy t) before event)) (split ∙ sym (append_assoc before (event ∷ []) events))
      (subst (λ (v : World). Every IsTold v.notes.records) now (of_event before event events split))))

  of_run : Every IsTold (records_of (run policy t script.events))
  of_run = of_worlds script.events [] (opened policy t) refl refl (subst (Every IsTold) (sym (opens_none policy t t.nodes empty_world 1)) tt)

-- *The last line*, and all before it
last_fronts : (policy : Policy) (script : Script) → HoldInFronts (IsTrueLine policy script) (last_line policy script)
last_fronts policy script = subst (HoldInFronts (IsTrueLine policy script)) (append-nil (last_line policy script))
    (fronts_more (IsTrueLine policy script) (last_line policy script) [] (last_is policy script) (ends refl) (fronts_none (IsTrueLine policy script)))

pub last : LastLinesAreTrue
last policy script front rest e = all_of (WhereWhole (IsTrueLine policy script)) (lines_of front) (last_fronts policy script front rest e)

pub fronts : FrontsAreTrue
fronts policy script true_of front rest e = all_of (WhereWhole (IsTrueLine policy script)) (lines_of front)
    (fronts_each (IsTrueLine policy script) (record_line script.topology) (records_of (run policy script.topology script.events)) (last_line policy script)
    (of_run policy script true_of) (last_fronts policy script) front rest e)
