-- What an event does is what the looks before it and behind it tell

use Rattle.std.proofs.Common.{◌≡◌, ℕ, ◌+◌, if◌then◌else◌, Bool, true, false, List, [], ◌∷◌, ◌++◌, append_assoc, codes, drop, length, map, refl, sym, ap, ◌∙◌}
use Rattle.std.specs.Prelude.{decimal}
use Rattle.link_model.specs.declared.record.Record.{Record}
use Rattle.world_model.specs.network_model.declared.event.Event.{Event}
use Rattle.world_model.specs.Run.{next}
use Rattle.world_model.specs.Topology.{Topology}
use Rattle.world_model.specs.World.{World}
use Rattle.script_model.specs.Writing.{event_words}
use Rattle.telling_model.specs.declared.standing.Standing.{Standing}
use Rattle.telling_model.specs.Passing.{frames_made, cells_put}
use Rattle.telling_model.specs.Placed.{placed}
use Rattle.tell_passing.specs.declared.before.Before.{Before}
use Rattle.tell_passing.specs.Look.{IsBefore}
use Rattle.tell_journal.specs.Json.{array, json_line, member, object, string}
use Rattle.tell_journal.specs.Journal.{Deeds, cell_value, deeds_of, event_line, event_value, frame_value, is_told, record_value, spaced, taken_value}
use Rattle.tell_journal.specs.Seen.{deeds_in}

pub same_deeds : (t : Topology) (w now : World) (event : Event) (before : Before) (cells : List Standing) → IsBefore t w event before → cells ≡ cells_put t w event → now ≡ next t w event
    → deeds_in before cells now.notes ≡ deeds_of t w event
same_deeds t w now event before cells looked puts came =
    let count : drop before.made now.notes.frames ≡ frames_made t w event =
    ap (λ (n : ℕ). drop n now.notes.frames) looked.made ∙ ap (λ (v : World). drop (length w.notes.frames) v.notes.frames) came in
    λ i. record { taken = looked.taken i; frames = count i; put = puts i; records = (came i).notes.records }

-- the line of an event that does something, and of one that doesn't
line_by : (b : Bool) (whole : List ℕ) → b ≡ true → (if b then whole else []) ≡ whole
line_by b whole e = ap (λ (x : Bool). if x then whole else []) e

none_by : (b : Bool) (whole : List ℕ) → b ≡ false → (if b then whole else []) ≡ []
none_by b whole e = ap (λ (x : Bool). if x then whole else []) e

pub line_told : (t : Topology) (number : ℕ) (line : ℕ) (event : Event) (w : World) (seen deeds : Deeds) → seen ≡ deeds → number ≡ w.events + 1 → is_told event seen ≡ true
    → json_line (event_value t number (placed line event) seen) ≡ event_line t (w.events + 1) (placed line event) deeds
line_told t number line event w seen deeds same numbered told =
    (λ i. json_line (event_value t (numbered i) (placed line event) (same i)))
    ∙ sym (line_by (is_told event deeds) _ (ap (is_told event) (sym same) ∙ told))

pub none_told : (t : Topology) (number : ℕ) (line : ℕ) (event : Event) (seen deeds : Deeds) → seen ≡ deeds → is_told event seen ≡ false → event_line t number (placed line event) deeds ≡ []
none_told t number line event seen deeds same not_told = none_by (is_told event deeds) _ (ap (is_told event) (sym same) ∙ not_told)

-- parts side by side, however they are put together
flat : (o y u t q1 q2 q3 q4 q5 q6 q7 n l s k f p r : List ℕ)
    → (((o ++ q1) ++ (n ++ ((y ++ q2) ++ (l ++ ((y ++ q3) ++ s))))) ++ ((y ++ q4) ++ (k ++ ((y ++ q5) ++ f)))) ++ ((y ++ q6) ++ (p ++ ((y ++ q7) ++ (r ++ (u ++ t)))))
    ≡ (o ++ (((q1 ++ n) ++ (y ++ ((q2 ++ l) ++ (y ++ ((q3 ++ s) ++ (y ++ ((q4 ++ k) ++ (y ++ ((q5 ++ f) ++ (y ++ ((q6 ++ p) ++ (y ++ (q7 ++ r))))))))))))) ++ u)) ++ t
flat o y u t q1 q2 q3 q4 q5 q6 q7 n l s k f p r = simp append_assoc refl

whole_of : (n l w k : List ℕ) (fs ps rs : List (List ℕ))
    → ((codes "{\"event\":" ++ (n ++ (codes ",\"line\":" ++ (l ++ (codes ",\"do\":" ++ string w))))) ++ (codes ",\"took\":" ++ (k ++ (codes ",\"frames\":" ++ array fs))))
    ++ (codes ",\"put\":" ++ (array ps ++ (codes ",\"says\":" ++ (array rs ++ codes "}\n"))))
    ≡ json_line (object (member (codes "event") n ∷ member (codes "line") l ∷ member (codes "do") (string w) ∷ member (codes "took") k
    ∷ member (codes "frames") (array fs) ∷ member (codes "put") (array ps) ∷ member (codes "says") (array rs) ∷ []))
whole_of n l w k fs ps rs =
    flat (codes "{") (codes ",") (codes "}") (codes "\n") (codes "\"event\":") (codes "\"line\":") (codes "\"do\":") (codes "\"took\":") (codes "\"frames\":") (codes "\"put\":") (codes "\"says\":")
    n l (string w) k (array fs) (array ps) (array rs)

-- the line of an event, part by part
pub event_written : (t : Topology) (number line : ℕ) (event : Event) (deeds : Deeds) (none one two new : List ℕ) (cells : List Standing) (records : List Record) → none ≡ []
    → one ≡ none ++ (codes "{\"event\":" ++ (decimal number ++ (codes ",\"line\":" ++ (decimal line ++ (codes ",\"do\":" ++ string (spaced (event_words t event)))))))
    → two ≡ one ++ (codes ",\"took\":" ++ (taken_value t deeds.taken ++ (codes ",\"frames\":" ++ array (map frame_value deeds.frames))))
    → cells ≡ deeds.put → records ≡ deeds.records
    → new ≡ two ++ (codes ",\"put\":" ++ (array (map (cell_value t) cells) ++ (codes ",\"says\":" ++ (array (map (record_value t) records) ++ codes "}\n"))))
    → new ≡ json_line (event_value t number (placed line event) deeds)
event_written t number line event deeds none one two new cells records empty fronts middles put_is records_are rests =
    let F : List ℕ = codes "{\"event\":" ++ (decimal number ++ (codes ",\"line\":" ++ (decimal line ++ (codes ",\"do\":" ++ string (spaced (event_words t event)))))) in
    let M : List ℕ = codes ",\"took\":" ++ (taken_value t deeds.taken ++ (codes ",\"frames\":" ++ array (map frame_value deeds.frames))) in
    let R : List Standing → List Record → List ℕ = λ xs ys. codes ",\"put\":" ++ (array (map (cell_value t) xs) ++ (codes ",\"says\":" ++ (array (map (record_value t) ys) ++ codes "}\n"))) in
    let parts : new ≡ (F ++ M) ++ R deeds.put deeds.records =
    rests ∙ (λ i. (middles i) ++ R (put_is i) (records_are i)) ∙ ap (λ (xs : List ℕ). (xs ++ M) ++ R deeds.put deeds.records) (fronts ∙ ap (λ (xs : List ℕ). xs ++ F) empty) in
    parts ∙ whole_of (decimal number) (decimal line) (spaced (event_words t event)) (taken_value t deeds.taken) (map frame_value deeds.frames) (map (cell_value t) deeds.put) (map (record_value t) deeds.records)
