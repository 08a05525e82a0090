-- what is told of a replay, line by line

use Rattle.std.proofs.Common.{◌≡◌, ℕ, zero, suc, true, false, Bool, List, [], ◌∷◌, ◌++◌, append_assoc, append-nil, Option, None, Some, Result, Ok, Err, OnErr, OnOk, refl, sym, ◌∙◌, ap, subst, arith}
use Rattle.std.specs.Prelude.{◌<◌, ◌==◌, if◌then◌else◌, is_some}
use Rattle.std.specs.Result.{IsErrAnd}
use Rattle.std.proofs.lemmas.Bool.Decides.{nat_tests}
use Rattle.link_model.specs.Notes.{Journal}
use Rattle.lab_io.specs.Report.{IsPut, Writer}
use Rattle.port_model.specs.Setup.{Policy}
use Rattle.script_model.specs.world_model.Controller.{Controller}
use Rattle.script_model.specs.world_model.network_model.declared.event.Event.{Event}
use Rattle.script_model.specs.world_model.Run.{put_away, world_after}
use Rattle.script_model.specs.world_model.Topology.{Topology}
use Rattle.script_model.specs.world_model.World.{World, opened}
use Rattle.script_model.specs.declared.line.Line.{Line}
use Rattle.script_model.specs.declared.line.Line.TheVariants.{Blank, Topology as TopologyIs, Event as EventComes, TickAll, Run}
use Rattle.script_model.specs.declared.refusal.LineRefusal.{LineRefusal}
use Rattle.script_model.specs.declared.refusal.Refused.{Refused}
use Rattle.script_model.specs.declared.refusal.Refused.TheVariants.{Line as LineIs}
use Rattle.script_model.specs.Reading.{state_after}
use Rattle.script_model.specs.Sayable.{IsSayable}
use Rattle.script_model.specs.Script.{Script, script_ended, events_of, preceded_by, number_of, script_from}
use Rattle.script_model.specs.State.{ScriptState, nothing_read, opening_tables}
use Rattle.script_text.specs.declared.fault.ReadFault.{ReadFault}
use Rattle.script_text.specs.declared.fault.ReadFault.TheVariants as read
use Rattle.network_run.specs.telling_model.Placed.{Placed, events_in, placed_events, placed_from}
use Rattle.network_run.specs.telling_model.Tale.{Tale, Telling, body, told_at_last, told, told_of, unnoted}
use Rattle.network_run.proofs.telling_model.Told.{octets_append, state_append, told_away}
use Rattle.world.specs.declared.counts.Meter.{Meter}
use Rattle.world.specs.declared.world.World.{World as Network}
use Rattle.world.specs.Network.{no_notes, world_of}
use Rattle.world.specs.Running.{Runs}
use Rattle.lab_io.specs.declared.stop.Stop.{Stop}
use Rattle.lab_io.specs.declared.stop.Stop.TheVariants.{OutOfMemory}
use Rattle.network_run.specs.declared.told.Told.{Told}
use Rattle.lab_io.specs.Puts.{Puts, StopsIn}
use Rattle.network_run.specs.Telling.{IsMeterIn, meter_behind}
use Rattle.lab_io.proofs.Stops.{none_of, nothing_put, put_then, puts_then, stops_before, stops_by}
use Rattle.network_run.proofs.Repeated.{meter_append, meter_then, meter_there}
use Rattle.network_replay.specs.declared.replay.Replay.{Replay}
use Rattle.network_replay.specs.Along.{AreTaken, EndsScript, GoesOn, HasBegun, HasNetwork, HasStepped, IsAlong, IsAtLast, IsOpen, IsRead, IsReading, IsWhole, Knows, last_told, opening_known, opening_told, told_by, world_behind}
use Rattle.network_replay.specs.Lines.{has_events, unsaid}
use Rattle.network_replay.proofs.Course.{counted_network, network_of, quiet_events, quiet_network}
use Rattle.network_replay.proofs.Metered.{meter_stays}
use Rattle.network_replay.proofs.Taking.{begins, begun_stays, events_more, lines_more, onward_end, onward_refused, onward_said, placed_end, placed_refused, placed_said, stays, taken_first, taken_next}

-- *Whether a number is 0*
is_zero : (n : ℕ) → n ≡ 0 → (n == 0) ≡ true
is_zero n e = grind (arith, nat_tests)

is_more : (n : ℕ) → 0 < n → (n == 0) ≡ false
is_more n low = grind (arith, nat_tests)

none_in : (placed : List Placed) → events_in placed ≡ [] → placed ≡ []
none_in [] e = refl
none_in (p ∷ placed) e = absurd (cc e)

moved : {A : Type 0} (q : Result (Unit {0}) Stop) (x one other : A) → one ≡ other → OnOk q (x ≡ one) → OnOk q (x ≡ other)
moved (Ok v) x one other e p = p ∙ e
moved (Err stop) x one other e p = tt

knows_moved : {A : Type 0} (q : Result (Unit {0}) Stop) (n : ℕ) (x one other : A) → one ≡ other → OnOk q (x ≡ one) → OnOk q (0 < n → x ≡ other)
knows_moved (Ok v) n x one other e p = λ low. p ∙ e
knows_moved (Err stop) n x one other e p = tt

on_err_moved : (q : Result (Unit {0}) Stop) (one other : Type 0) → (one → other) → OnErr q one → OnErr q other
on_err_moved (Ok v) one other f p = tt
on_err_moved (Err stop) one other f p = f p

module _ {S : Type 0} (tale : Tale S) (choice : Topology → Policy) where
  abbrev opening : Topology → World
  opening topology = opened (choice topology) topology

  abbrev told_to : Topology → List Placed → Telling S
  told_to t placed = told_of tale (choice t) t placed

  abbrev told_from : Topology → (placed more : List Placed) → Telling S
  told_from t placed more = told tale (told_to t placed).state t (world_behind choice t (events_in placed)) more

  -- *Of events and those behind them*
  told_more : (t : Topology) (placed more : List Placed) → (told_to t (placed ++ more)).octets ≡ (told_to t placed).octets ++ (told_from t placed more).octets
  told_more t placed more =
      let first : Telling S = tale.opens t (opening t) in
      ap (λ xs. first.octets ++ xs) (octets_append tale t first.state (opening t) placed more)
      ∙ sym (append_assoc first.octets (told tale first.state t (opening t) placed).octets (told_from t placed more).octets)

  known_more : (t : Topology) (placed more : List Placed) → (told_to t (placed ++ more)).state ≡ (told_from t placed more).state
  known_more t placed more = state_append tale t (tale.opens t (opening t)).state (opening t) placed more

  -- *Behind some lines*
  pub told_none : (state : ScriptState) (placed : List Placed) → state.event_lines ≡ 0 → told_by tale choice state placed ≡ []
  told_none state placed e = ap (λ (b : Bool). if b then [] else (told_to state.topology placed).octets) (is_zero state.event_lines e)

  pub told_some : (state : ScriptState) (placed : List Placed) → 0 < state.event_lines → told_by tale choice state placed ≡ (told_to state.topology placed).octets
  told_some state placed low = ap (λ (b : Bool). if b then [] else (told_to state.topology placed).octets) (is_more state.event_lines low)

  -- lines without events tell nothing
  told_same : (state now : ScriptState) (placed : List Placed) → now.event_lines ≡ state.event_lines → (0 < state.event_lines → now.topology ≡ state.topology)
      → told_by tale choice state placed ≡ told_by tale choice now placed
  told_same state now placed lines stay = by state.event_lines refl
    where
      by : (n : ℕ) → state.event_lines ≡ n → told_by tale choice state placed ≡ told_by tale choice now placed
      by zero e = told_none state placed e ∙ sym (told_none now placed (lines ∙ e))
      by (suc n) e =
          let low : 0 < state.event_lines = omega (arith, e) in
          let later : 0 < now.event_lines = omega (arith, e, lines) in
          told_some state placed low ∙ ap (λ (t : Topology). (told_to t placed).octets) (sym (stay low)) ∙ sym (told_some now placed later)

  knows_same : (state now : ScriptState) (placed : List Placed) (known : S) → now.event_lines ≡ state.event_lines → (0 < state.event_lines → now.topology ≡ state.topology)
      → Knows tale choice state placed known → Knows tale choice now placed known
  knows_same state now placed known lines stay knows later =
      let low : 0 < state.event_lines = omega (arith, lines, later) in
      knows low ∙ ap (λ (t : Topology). (told_to t placed).state) (sym (stay low))

  module _ {C : Type 0} (seen : C → Controller) where
    -- *As the network is there* it is told as far as its events go
    pub out_told : (state : ScriptState) (notes : Journal) (world : Option (Network C)) (placed : List Placed) → HasNetwork seen choice state notes world (events_in placed)
        → told_by tale choice state placed ++ opening_told tale choice state.topology world ≡ (told_to state.topology placed).octets
    out_told state notes None placed h =
        let t : Topology = state.topology in
        ap (λ xs. xs ++ (tale.opens t (opening t)).octets) (told_none state placed h.event_lines)
        ∙ sym (append-nil (tale.opens t (opening t)).octets) ∙ ap (λ ps. (told_to t ps).octets) (sym (none_in placed h.events_are))
    out_told state notes (Some n) placed h = append-nil (told_by tale choice state placed) ∙ told_some state placed h.0.event_lines

    pub out_known : (state : ScriptState) (notes : Journal) (world : Option (Network C)) (placed : List Placed) (known : S) → HasNetwork seen choice state notes world (events_in placed) → Knows tale choice state placed known
        → opening_known tale choice state.topology world known ≡ (told_to state.topology placed).state
    out_known state notes None placed known h knows = ap (λ ps. (told_to state.topology ps).state) (sym (none_in placed h.events_are))
    out_known state notes (Some n) placed known h knows = knows h.0.event_lines

    -- *At the end*
    opening_last : (state : ScriptState) (notes : Journal) (world : Option (Network C)) (placed : List Placed) → HasNetwork seen choice state notes world (events_in placed)
        → opening_told tale choice state.topology world ≡ (if state.event_lines == 0 then (told_to state.topology placed).octets else [])
    opening_last state notes None placed h =
        let t : Topology = state.topology in
        sym (append-nil (tale.opens t (opening t)).octets) ∙ ap (λ ps. (told_to t ps).octets) (sym (none_in placed h.events_are))
        ∙ ap (λ (b : Bool). if b then (told_to t placed).octets else []) (sym (is_zero state.event_lines h.event_lines))
    opening_last state notes (Some n) placed h =
        ap (λ (b : Bool). if b then (told_to state.topology placed).octets else []) (sym (is_more state.event_lines h.0.event_lines))

  module _ {C T : Type 0} (seen : C → Controller) (known : T → S) where
    -- *The events of a line are stepped*
    pub quiet_step : (state : ScriptState) (line : List ℕ) (said : Line) (placed : List Placed) (r : Replay C) (told : Told T) (written : Option (List ℕ)) (meter : Meter) → has_events said ≡ false
        → HasNetwork seen choice state r.notes r.world (events_in placed) → Knows tale choice state placed (known told.teller) → r.state ≡ state_after state line (Ok said) → IsSayable state said
        → HasStepped seen known tale choice state said placed (Ok tt) r r told told written written meter meter
    quiet_step state line said placed r told written meter is h knows after can =
        let none : events_of state.topology said ≡ [] = quiet_events seen choice state.topology said is in
        let all : placed ++ placed_events (number_of state) (events_of state.topology said) ≡ placed = ap (λ es. placed ++ placed_events (number_of state) es) none ∙ append-nil placed in
        let lines : r.state.event_lines ≡ state.event_lines = ap (λ (s : ScriptState). s.event_lines) after ∙ quiet_lines state line said is in
        let stay : 0 < state.event_lines → r.state.topology ≡ state.topology = λ low. ap (λ (s : ScriptState). s.topology) after ∙ (begun_stays state line said (begun_of state r.notes r.world h low) can).1 in
        record {
          network = subst (λ (s : ScriptState). HasNetwork seen choice s r.notes r.world (events_in placed ++ events_of state.topology said)) (sym after)
              (quiet_network seen choice state line said r.notes r.world (events_in placed) is can h);
          octets = [];
          onward = append-nil (told_by tale choice state placed) ∙ told_same state r.state placed lines stay ∙ ap (told_by tale choice r.state) (sym all);
          put = nothing_put told.writer written;
          knows = subst (λ ps. Knows tale choice r.state ps (known told.teller)) (sym all) (knows_same state r.state placed (known told.teller) lines stay knows);
          meter_is = sym (ap (meter_behind meter r.state.topology (world_behind choice r.state.topology (events_in placed))) none);
          kept = tt;
        }
      where
        quiet_lines : (state : ScriptState) (line : List ℕ) (said : Line) → has_events said ≡ false → (state_after state line (Ok said)).event_lines ≡ state.event_lines
        quiet_lines state line Blank is = refl
        quiet_lines state line (TopologyIs topology) is = refl
        quiet_lines state line (EventComes event) is = absurd (cc is)
        quiet_lines state line TickAll is = absurd (cc is)
        quiet_lines state line (Run rounds) is = absurd (cc is)

        begun_of : (state : ScriptState) (notes : Journal) (world : Option (Network C)) → HasNetwork seen choice state notes world (events_in placed) → 0 < state.event_lines → HasBegun state
        begun_of state notes None h low = (let none : state.event_lines ≡ 0 = h.event_lines in absurd (omega (arith, none, low)))
        begun_of state notes (Some n) h low = h.0

    -- what a line of events tells behind those before it
    module _ (state : ScriptState) (line : List ℕ) (said : Line) (placed : List Placed) (r : Replay C) (is : has_events said ≡ true) (was : r.state ≡ state_after state line (Ok said))
        (h : HasNetwork seen choice state r.notes r.world (events_in placed)) where
      abbrev t : Topology
      t = r.state.topology

      abbrev more : List Placed
      more = placed_events (number_of state) (events_of state.topology said)

      abbrev piece : List ℕ
      piece = opening_told tale choice t r.world ++ (told_from t placed more).octets

      same_topology : t ≡ state.topology
      same_topology = ap (λ (s : ScriptState). s.topology) was ∙ (begins state line said is).1

      begun : 0 < r.state.event_lines
      begun = subst (λ (s : ScriptState). 0 < s.event_lines) (sym was) (begins state line said is).0.event_lines

      piece_onward : told_by tale choice state placed ++ piece ≡ told_by tale choice r.state (placed ++ more)
      piece_onward =
          sym (append_assoc (told_by tale choice state placed) (opening_told tale choice t r.world) (told_from t placed more).octets)
          ∙ ap (λ xs. xs ++ (told_from t placed more).octets)
          (ap (λ (u : Topology). told_by tale choice state placed ++ opening_told tale choice u r.world) same_topology ∙ out_told seen state r.notes r.world placed h
          ∙ ap (λ (u : Topology). (told_to u placed).octets) (sym same_topology))
          ∙ sym (told_more t placed more) ∙ sym (told_some r.state (placed ++ more) begun)

      -- no network came of it
      pub stepped_none : (result : Result (Unit {0}) Stop) (stop : Stop) (new : Replay C) (told later : Told T) (written wrote : Option (List ℕ)) (meter : Meter) → IsErrAnd result (λ s. s ≡ stop)
          → StopsIn stop told.writer later.writer written wrote (opening_told tale choice t r.world) → HasStepped seen known tale choice state said placed result r new told later written wrote meter meter
      stepped_none (Ok v) stop new told later written wrote meter e left = absurd e
      stepped_none (Err s) stop new told later written wrote meter e left = record {
        network = tt;
        octets = piece;
        onward = piece_onward;
        put = subst (λ (q : Stop). StopsIn q told.writer later.writer written wrote piece) (sym e)
            (stops_before stop told.writer later.writer written wrote (opening_told tale choice t r.world) (told_from t placed more).octets left);
        knows = tt;
        meter_is = tt;
        kept = record { count = 0; within = omega arith; reading = refl };
      }

      module _ (n : Network C) (there : IsOpen seen (choice state.topology) state r.notes n (events_in placed)) where
        world_is : world_of seen n r.notes ≡ put_away (world_behind choice t (events_in placed))
        world_is = there.world ∙ ap (λ (u : Topology). put_away (world_behind choice u (events_in placed))) (sym same_topology)

        events_are : events_of t said ≡ events_of state.topology said
        events_are = ap (λ (u : Topology). events_of u said) same_topology

        -- they were stepped
        pub stepped : (result : Result (Unit {0}) Stop) (x new : Replay C) (o : Option (Network C)) (now : Network C) (u : Topology) (number : ℕ) (notes : Journal) (told mid later : Told T) (written between wrote : Option (List ℕ)) (meter after : Meter)
            → IsSayable state said → Knows tale choice state placed (known told.teller)
            → x ≡ record r { world = o } → u ≡ x.state.topology → number ≡ x.state.lines → new ≡ record x { notes = notes; world = Some now }
            → IsPut told.writer mid.writer written between (opening_told tale choice t r.world) → known mid.teller ≡ opening_known tale choice t r.world (known told.teller)
            → OnOk result (world_of seen now notes ≡ put_away (world_after u (world_of seen n x.notes) (events_of u said))) → OnOk result (Runs seen u now)
            → Puts result mid.writer later.writer between wrote (Rattle.network_run.specs.telling_model.Tale.told tale (known mid.teller) u (world_of seen n x.notes) (placed_events number (events_of u said))).octets
            → OnOk result (known later.teller ≡ (Rattle.network_run.specs.telling_model.Tale.told tale (known mid.teller) u (world_of seen n x.notes) (placed_events number (events_of u said))).state)
            → OnOk result (after ≡ meter_behind meter u (world_of seen n x.notes) (events_of u said))
            → OnErr result (IsMeterIn meter u (world_of seen n x.notes) (events_of u said) after)
            → HasStepped seen known tale choice state said placed result r new told later written wrote meter after
        stepped result x new o now u number notes told mid later written between wrote meter after can knows rest named numbered kept opened_put opened_known made runs put knew read some =
            let a : u ≡ t = named ∙ ap (λ (q : Replay C). q.state.topology) rest in
            let b : world_of seen n x.notes ≡ put_away (world_behind choice t (events_in placed)) = ap (λ (q : Replay C). world_of seen n q.notes) rest ∙ world_is in
            let c : number ≡ number_of state = numbered ∙ ap (λ (q : Replay C). q.state.lines) rest ∙ ap (λ (s : ScriptState). s.lines) was ∙ lines_more state line said in
            let d : events_of u said ≡ events_of state.topology said = ap (λ (v : Topology). events_of v said) a ∙ events_are in
            let k : known mid.teller ≡ (told_to t placed).state =
            opened_known ∙ ap (λ (v : Topology). opening_known tale choice v r.world (known told.teller)) same_topology ∙ out_known seen state r.notes r.world placed (known told.teller) h knows
            ∙ ap (λ (v : Topology). (told_to v placed).state) (sym same_topology) in
            let tells : Rattle.network_run.specs.telling_model.Tale.told tale (known mid.teller) u (world_of seen n x.notes) (placed_events number (events_of u said)) ≡ told_from t placed more =
            (λ i. Rattle.network_run.specs.telling_model.Tale.told tale (k i) (a i) (b i) (placed_events (c i) (d i))) ∙ told_away tale t (told_to t placed).state (world_behind choice t (events_in placed)) more in
            record {
              network = network_of seen choice state line said (events_in placed) result r x new o n now u notes is was can there rest named kept made runs;
              octets = piece;
              onward = piece_onward;
              put = puts_then result told.writer mid.writer later.writer written between wrote (opening_told tale choice t r.world) (told_from t placed more).octets opened_put
                  (subst (λ (one : Telling S). Puts result mid.writer later.writer between wrote one.octets) tells put);
              knows = knows_moved result r.state.event_lines (known later.teller) (Rattle.network_run.specs.telling_model.Tale.told tale (known mid.teller) u (world_of seen n x.notes) (placed_events number (events_of u said))).state
                  (told_to t (placed ++ more)).state (ap (λ (one : Telling S). one.state) tells ∙ sym (known_more t placed more)) knew;
              meter_is = moved result after (meter_behind meter u (world_of seen n x.notes) (events_of u said)) (meter_behind meter t (world_behind choice t (events_in placed)) (events_of state.topology said))
                  ((λ i. meter_behind meter (a i) (b i) (d i)) ∙ meter_then meter t (opening t) (put_away (world_behind choice t (events_in placed))) (events_in placed) (events_of state.topology said) refl) read;
              kept = on_err_moved result (IsMeterIn meter u (world_of seen n x.notes) (events_of u said) after) (IsMeterIn meter t (world_behind choice t (events_in placed)) (events_of state.topology said) after)
                  (λ k. meter_there meter t (opening t) (put_away (world_behind choice t (events_in placed))) (events_in placed) (events_of state.topology said) after refl
                  (subst (λ (es : List Event). IsMeterIn meter t (put_away (world_behind choice t (events_in placed))) es after) d
                  (subst (λ (w : World). IsMeterIn meter t w (events_of u said) after) b
                  (subst (λ (v : Topology). IsMeterIn meter v (world_of seen n x.notes) (events_of u said) after) a k)))) some;
            }

    -- *What a script of these lines tells* begins with what was told
    pub record Begins (script : Script) (all : List Placed) (state : ScriptState) (placed : List Placed) : Type 0 where
      pub rest : List ℕ
      pub whole : told_by tale choice state placed ++ rest ≡ body tale (choice script.topology) script all

    begins_with : (script tail : Script) (all : List Placed) (state : ScriptState) (placed others : List Placed) (events : List Event) → script ≡ preceded_by events tail → all ≡ placed ++ others
        → tail.topology ≡ state.topology → 0 < tail.event_lines → 0 < state.event_lines → Begins script all state placed
    begins_with script tail all state placed others events is are stay later low =
        let topology : script.topology ≡ state.topology = ap (λ (s : Script). s.topology) is ∙ stay in
        let lines : script.event_lines ≡ tail.event_lines = ap (λ (s : Script). s.event_lines) is in
        let more : 0 < script.event_lines = omega (arith, lines, later) in
        record {
          rest = (told_from state.topology placed others).octets;
          whole = ap (λ xs. xs ++ (told_from state.topology placed others).octets) (told_some state placed low)
              ∙ sym (told_more state.topology placed others)
              ∙ (λ i. (told_to (sym topology i) (sym are i)).octets)
              ∙ sym (ap (λ (b : Bool). if b then [] else (told_to script.topology all).octets) (is_more script.event_lines more));
        }

    begins_empty : (script : Script) (all : List Placed) (state : ScriptState) (placed : List Placed) → state.event_lines ≡ 0 → Begins script all state placed
    begins_empty script all state placed none = record {
      rest = body tale (choice script.topology) script all;
      whole = ap (λ xs. xs ++ body tale (choice script.topology) script all) (told_none state placed none);
    }

    -- *An early end* leaves a front
    stops_along : (stop : Stop) (script : Script) (all : List Placed) (state now : ScriptState) (placed later : List Placed) (a b c : Writer) (x y z : Option (List ℕ)) (octets : List ℕ) → Begins script all now later
        → told_by tale choice state placed ++ octets ≡ told_by tale choice now later
        → IsPut a b x y (told_by tale choice state placed) → StopsIn stop b c y z octets
        → StopsIn stop a c x z (body tale (choice script.topology) script all)
    stops_along stop script all state now placed later a b c x y z octets begins onward p h =
        subst (StopsIn stop a c x z)
        (sym (append_assoc (told_by tale choice state placed) octets begins.rest) ∙ ap (λ xs. xs ++ begins.rest) onward ∙ begins.whole)
        (stops_by stop a b c x y z (told_by tale choice state placed) octets begins.rest p h)

    module _ (says : ScriptState → List ℕ → Result Line LineRefusal) (reading : IsReading says) where
      abbrev script_with : List (List ℕ) → List ℕ → List (List ℕ) → Script
      script_with lines line others = script_from says nothing_read (lines ++ line ∷ others)

      abbrev placed_with : List (List ℕ) → List ℕ → List (List ℕ) → List Placed
      placed_with lines line others = placed_from says nothing_read (lines ++ line ∷ others)

      -- a line that is said
      said_begins : (state : ScriptState) (notes : Journal) (world : Option (Network C)) (lines others : List (List ℕ)) (line : List ℕ) (said : Line) (placed : List Placed) → AreTaken says lines state placed → HasNetwork seen choice state notes world (events_in placed)
          → says state line ≡ Ok said
          → Begins (script_with lines line others) (placed_with lines line others) (state_after state line (Ok said)) (placed ++ placed_events (number_of state) (events_of state.topology said))
      said_begins state notes world lines others line said placed a h e = by world said h e
        where
          going : (said : Line) → says state line ≡ Ok said → HasBegun (state_after state line (Ok said))
              → Begins (script_with lines line others) (placed_with lines line others) (state_after state line (Ok said)) (placed ++ placed_events (number_of state) (events_of state.topology said))
          going said e begun =
              let behind = stays says reading (state_after state line (Ok said)) others begun in
              begins_with (script_with lines line others) (script_from says (state_after state line (Ok said)) others) (placed_with lines line others) (state_after state line (Ok said))
              (placed ++ placed_events (number_of state) (events_of state.topology said)) (placed_from says (state_after state line (Ok said)) others)
              (events_in (placed ++ placed_events (number_of state) (events_of state.topology said)))
              (onward_said says lines state placed line said others a e) (placed_said says lines state placed line said others a e) behind.0 behind.1 begun.event_lines

          by : (world : Option (Network C)) (said : Line) → HasNetwork seen choice state notes world (events_in placed) → says state line ≡ Ok said
              → Begins (script_with lines line others) (placed_with lines line others) (state_after state line (Ok said)) (placed ++ placed_events (number_of state) (events_of state.topology said))
          by (Some n) said h e = going said e (begun_stays state line said h.0 (reading.sayable state line said e)).0
          by None Blank h e = begins_empty (script_with lines line others) (placed_with lines line others) (state_after state line (Ok Blank)) (placed ++ []) h.event_lines
          by None (TopologyIs topology) h e = begins_empty (script_with lines line others) (placed_with lines line others) (state_after state line (Ok (TopologyIs topology))) (placed ++ []) h.event_lines
          by None (EventComes event) h e = going (EventComes event) e (begins state line (EventComes event) refl).0
          by None TickAll h e = going TickAll e (begins state line TickAll refl).0
          by None (Run rounds) h e = going (Run rounds) e (begins state line (Run rounds) refl).0

      -- whatever the line says
      line_begins : (state : ScriptState) (notes : Journal) (world : Option (Network C)) (lines others : List (List ℕ)) (line : List ℕ) (placed : List Placed) → AreTaken says lines state placed → HasNetwork seen choice state notes world (events_in placed)
          → Begins (script_with lines line others) (placed_with lines line others) state placed
      line_begins state notes None lines others line placed a h = begins_empty (script_with lines line others) (placed_with lines line others) state placed h.event_lines
      line_begins state notes (Some n) lines others line placed a h =
          let behind = stays says reading state (line ∷ others) h.0 in
          begins_with (script_with lines line others) (script_from says state (line ∷ others)) (placed_with lines line others) state placed (placed_from says state (line ∷ others)) (events_in placed)
          (a.onward (line ∷ others)) (a.placed_onward (line ∷ others)) behind.0 behind.1 h.0.event_lines

      -- memory is wanting before a line
      pub along_wanting : (first : Writer) (start written : Option (List ℕ)) (before meter : Meter) (lines others : List (List ℕ)) (line : List ℕ) (r : Replay C) (told : Told T) (error : Rattle.net_types.specs.declared.memory.OutOfMemory.OutOfMemory)
          → IsAlong seen known tale choice says first start before lines r told written meter
          → StopsIn (OutOfMemory error) first told.writer start written (body tale (choice (script_with lines line others).topology) (script_with lines line others) (placed_with lines line others))
      along_wanting first start written before meter lines others line r told error h =
          stops_along (OutOfMemory error) (script_with lines line others) (placed_with lines line others) r.state r.state h.placed h.placed first told.writer told.writer start written written []
          (line_begins r.state r.notes r.world lines others line h.placed h.taken h.network) (append-nil (told_by tale choice r.state h.placed)) h.put (none_of told.writer written [])

      -- *A line was taken*
      goes_along : (first : Writer) (told later : Told T) (start written wrote : Option (List ℕ)) (before meter after : Meter) (lines : List (List ℕ)) (line : List ℕ) (said : Line) (state : ScriptState) (old new : Replay C)
          (h : IsAlong seen known tale choice says first start before lines (record old { state = state }) told written meter)
          → says state line ≡ Ok said → old.state ≡ state_after state line (Ok said) → new.state ≡ old.state
          → HasStepped seen known tale choice state said h.placed (Ok tt) old new told later written wrote meter after
          → IsAlong seen known tale choice says first start before (lines ++ line ∷ []) new later wrote after
      goes_along first told later start written wrote before meter after lines line said state old new h e was same s =
          let evs : List Event = events_of state.topology said in
          let more : List Placed = placed_events (number_of state) evs in
          let t : Topology = old.state.topology in
          let all : events_in h.placed ++ evs ≡ events_in (h.placed ++ more) = sym (events_more h.placed (number_of state) evs) in
          let stay : HasBegun state → t ≡ state.topology = λ begun. ap (λ (q : ScriptState). q.topology) was ∙ (begun_stays state line said begun (reading.sayable state line said e)).1 in
          let on_meter : after ≡ meter_behind before t (opening t) (events_in (h.placed ++ more)) =
          s.meter_is ∙ ap (λ (x : Meter). meter_behind x t (world_behind choice t (events_in h.placed)) evs) (h.meter_is ∙ meter_stays seen choice before state t old.notes old.world (events_in h.placed) h.network stay)
          ∙ meter_append before t (opening t) (events_in h.placed) evs ∙ ap (meter_behind before t (opening t)) all in
          record {
            placed = h.placed ++ more;
            taken = taken_next says lines state new.state h.placed line said h.taken e (same ∙ was);
            network = subst (λ (q : ScriptState). HasNetwork seen choice q new.notes new.world (events_in (h.placed ++ more))) (sym same)
                (subst (HasNetwork seen choice old.state new.notes new.world) all s.network);
            put = subst (λ (q : ScriptState). IsPut first later.writer start wrote (told_by tale choice q (h.placed ++ more))) (sym same)
                (subst (IsPut first later.writer start wrote) s.onward
                (put_then first told.writer later.writer start written wrote (told_by tale choice state h.placed) s.octets h.put s.put));
            knows = subst (λ (q : ScriptState). Knows tale choice q (h.placed ++ more) (known later.teller)) (sym same) s.knows;
            meter_is = subst (λ (q : ScriptState). after ≡ meter_behind before q.topology (opening q.topology) (events_in (h.placed ++ more))) (sym same) on_meter;
          }

      -- *The end of a script*: no line follows, or one is refused
      ends : (first writer : Writer) (start written : Option (List ℕ)) (before meter : Meter) (script : Script) (refused : Option Refused) (state : ScriptState) (r : Replay C) (placed : List Placed)
          → script ≡ preceded_by (events_in placed) (script_ended state refused) → r.state.topology ≡ state.topology → r.state.event_lines ≡ state.event_lines → HasNetwork seen choice r.state r.notes r.world (events_in placed ++ [])
          → IsPut first writer start written (told_by tale choice state placed) → meter ≡ meter_behind before state.topology (opening state.topology) (events_in placed)
          → IsAtLast seen tale choice first start before script placed refused r writer written meter
      ends first writer start written before meter script refused state r placed is topology lines network p m = record {
        whole = record {
          topology = ap (λ (s : Script). s.topology) is ∙ sym topology;
          event_lines = ap (λ (s : Script). s.event_lines) is ∙ sym lines;
          refusal = ap (λ (s : Script). s.refused) is;
          events = ap (λ (s : Script). s.events) is ∙ append-nil (events_in placed);
          network = subst (HasNetwork seen choice r.state r.notes r.world) (sym (ap (λ (s : Script). s.events) is)) network;
        };
        put = subst (λ (s : Script). IsPut first writer start written (body tale (choice s.topology) s placed)) (sym is) p;
        meter_is = m ∙ ap (meter_behind before state.topology (opening state.topology)) (sym (append-nil (events_in placed)))
            ∙ sym (ap (λ (s : Script). meter_behind before s.topology (opening s.topology) s.events) is);
      }

      ends_refused : (first writer : Writer) (start written : Option (List ℕ)) (before meter : Meter) (lines : List (List ℕ)) (line : List ℕ) (name : LineRefusal) (number : ℕ) (state : ScriptState) (r : Replay C) (placed : List Placed)
          → AreTaken says lines state placed → HasNetwork seen choice state r.notes r.world (events_in placed)
          → IsPut first writer start written (told_by tale choice state placed) → meter ≡ meter_behind before state.topology (opening state.topology) (events_in placed)
          → says state line ≡ Err name → r.state ≡ state_after state line (Err name) → number ≡ number_of state
          → EndsScript seen tale choice says first start before lines line (LineIs number name) r writer written meter
      ends_refused first writer start written before meter lines line name number state r placed a h p m e is numbered =
          let refused : Refused = LineIs number name in
          let script : Script = preceded_by (events_in placed) (script_ended state (Some refused)) in
          let named : LineIs (number_of state) name ≡ refused = ap (λ (n : ℕ). LineIs n name) (sym numbered) in
          record {
            script = script;
            placed = placed;
            same = λ others. onward_refused says lines state placed line name others a e ∙ ap (λ (x : Refused). preceded_by (events_in placed) (script_ended state (Some x))) named;
            same_placed = λ others. placed_refused says lines state placed line name others a e;
            last = ends first writer start written before meter script (Some refused) state r placed refl
                (ap (λ (s : ScriptState). s.topology) is) (ap (λ (s : ScriptState). s.event_lines) is)
                (counted_network seen choice state r.state r.notes r.world (events_in placed) (ap (λ (s : ScriptState). s.topology) is) (ap (λ (s : ScriptState). s.tables) is) (ap (λ (s : ScriptState). s.event_lines) is)
                (ap (λ (s : ScriptState). s.rounds) is) (ap (λ (s : ScriptState). s.ticks) is) (ap (λ (s : ScriptState). s.has_line) is) h) p m;
          }

      -- a line that wasn't read, for what it is
      pub along_refused : (first : Writer) (told : Told T) (start written : Option (List ℕ)) (before meter : Meter) (lines : List (List ℕ)) (line : List ℕ) (name : LineRefusal) (r : Replay C)
          → IsAlong seen known tale choice says first start before lines r told written meter → says r.state line ≡ Err name
          → EndsScript seen tale choice says first start before lines line (LineIs (number_of r.state) name) r told.writer written meter
      along_refused first told start written before meter lines line name r h e =
          let refused : Refused = LineIs (number_of r.state) name in
          let script : Script = preceded_by (events_in h.placed) (script_ended r.state (Some refused)) in
          record {
            script = script;
            placed = h.placed;
            same = λ others. onward_refused says lines r.state h.placed line name others h.taken e;
            same_placed = λ others. placed_refused says lines r.state h.placed line name others h.taken e;
            last = ends first told.writer start written before meter script (Some refused) r.state r h.placed refl refl refl
                (counted_network seen choice r.state r.state r.notes r.world (events_in h.placed) refl refl refl refl refl refl h.network) h.put h.meter_is;
          }

      -- no line is left
      pub along_ends : (first : Writer) (told : Told T) (start written : Option (List ℕ)) (before meter : Meter) (lines : List (List ℕ)) (r : Replay C)
          → IsAlong seen known tale choice says first start before lines r told written meter
          → IsAtLast seen tale choice first start before (script_from says nothing_read lines) (placed_from says nothing_read lines) None r told.writer written meter
      along_ends first told start written before meter lines r h =
          subst (λ ps. IsAtLast seen tale choice first start before (script_from says nothing_read lines) ps None r told.writer written meter) (sym (placed_end says lines r.state h.placed h.taken))
          (ends first told.writer start written before meter (script_from says nothing_read lines) None r.state r h.placed
          (onward_end says lines r.state h.placed h.taken) refl refl (counted_network seen choice r.state r.state r.notes r.world (events_in h.placed) refl refl refl refl refl refl h.network) h.put h.meter_is)

    -- *At the beginning*
    pub along_first : (says : ScriptState → List ℕ → Result Line LineRefusal) (told : Told T) (start : Option (List ℕ)) (before : Meter) (r : Replay C) → r.state ≡ nothing_read → r.notes ≡ no_notes → r.world ≡ None
        → IsAlong seen known tale choice says told.writer start before [] r told start before
    along_first says told start before r state notes world =
        let none : r.state.event_lines ≡ 0 = ap (λ (s : ScriptState). s.event_lines) state in
        record {
          placed = [];
          taken = subst (λ (s : ScriptState). AreTaken says [] s []) (sym state) (taken_first says);
          network = subst (λ (o : Option (Network C)). HasNetwork seen choice r.state r.notes o []) (sym world) (record {
            events_are = refl;
            event_lines = none;
            tables = ap (λ (s : ScriptState). s.tables) state ∙ ap (λ (s : ScriptState). opening_tables s.topology) (sym state);
            notes_are = notes;
          });
          put = subst (IsPut told.writer told.writer start start) (sym (told_none r.state [] none)) (nothing_put told.writer start);
          knows = λ low. absurd (omega (arith, none, low));
          meter_is = refl;
        }

    -- the result of a step is passed on
    abbrev pub Passes : Result (Unit {0}) Stop → Result (Option Refused) Stop → Type 0
    Passes (Ok v) (Ok None) = Unit {0}
    Passes (Ok v) (Ok (Some refused)) = ⊥
    Passes (Ok v) (Err stop) = ⊥
    Passes (Err stop) (Ok o) = ⊥
    Passes (Err stop) (Err other) = other ≡ stop

    module _ (says : ScriptState → List ℕ → Result Line LineRefusal) (reading : IsReading says) (first : Writer) (start : Option (List ℕ)) (before : Meter) (lines : List (List ℕ)) (line : List ℕ) where
      -- *What was read* goes on
      pub goes_read : (told later : Told T) (written wrote : Option (List ℕ)) (meter after : Meter) (said : Line) (state : ScriptState) (old new : Replay C) (result : Result (Unit {0}) Stop) (given : Result (Option Refused) Stop)
          → IsAlong seen known tale choice says first start before lines (record old { state = state }) told written meter
          → says state line ≡ Ok said → old.state ≡ state_after state line (Ok said) → new.state ≡ old.state
          → ((placed : List Placed) → HasNetwork seen choice state old.notes old.world (events_in placed) → Knows tale choice state placed (known told.teller)
          → HasStepped seen known tale choice state said placed result old new told later written wrote meter after)
          → Passes result given
          → GoesOn seen known tale choice says first start before lines line given new later wrote after
      goes_read told later written wrote meter after said state old new (Ok v) (Ok None) h e was same stepped is =
          goes_along says reading first told later start written wrote before meter after lines line said state old new h e was same (stepped h.placed h.network h.knows)
      goes_read told later written wrote meter after said state old new (Ok v) (Ok (Some refused)) h e was same stepped is = absurd is
      goes_read told later written wrote meter after said state old new (Ok v) (Err stop) h e was same stepped is = absurd is
      goes_read told later written wrote meter after said state old new (Err stop) (Ok o) h e was same stepped is = absurd is
      goes_read told later written wrote meter after said state old new (Err stop) (Err other) h e was same stepped is =
          let s = stepped h.placed h.network h.knows in
          λ others. stops_along other (script_with says reading lines line others) (placed_with says reading lines line others) state (state_after state line (Ok said)) h.placed
          (h.placed ++ placed_events (number_of state) (events_of state.topology said)) first told.writer later.writer start written wrote s.octets
          (said_begins says reading state old.notes old.world lines others line said h.placed h.taken h.network e)
          (s.onward ∙ ap (λ (q : ScriptState). told_by tale choice q (h.placed ++ placed_events (number_of state) (events_of state.topology said))) was)
          h.put (subst (λ (q : Stop). StopsIn q told.writer later.writer written wrote s.octets) (sym is) s.put)

      pub goes_err : (later : Told T) (wrote : Option (List ℕ)) (after : Meter) (new : Replay C) (result : Result (Option Refused) Stop) (stop : Stop)
          → IsErrAnd result (λ s. s ≡ stop) → ((other : Stop) → other ≡ stop → GoesOn seen known tale choice says first start before lines line (Err other) new later wrote after)
          → GoesOn seen known tale choice says first start before lines line result new later wrote after
      goes_err later wrote after new (Ok o) stop is f = absurd is
      goes_err later wrote after new (Err s) stop is f = f s is

      -- *What wasn't said*: it is refused, or memory was wanting
      pub goes_unsaid : (told : Told T) (written : Option (List ℕ)) (meter : Meter) (fault : ReadFault) (state : ScriptState) (r : Replay C)
          → IsAlong seen known tale choice says first start before lines (record r { state = state }) told written meter → IsRead says state line (Err fault) r.state
          → GoesOn seen known tale choice says first start before lines line (unsaid r.state.lines fault) r told written meter
      goes_unsaid told written meter (read.Refused name) state r h is =
          ends_refused says reading first told.writer start written before meter lines line name r.state.lines state r h.placed h.taken h.network h.put h.meter_is is.0 is.1 is.2
      goes_unsaid told written meter (read.OutOfMemory error) state r h is =
          λ others. along_wanting says reading first start written before meter lines others line (record r { state = state }) told error h

  -- *What is told of the opening*: nothing where the network was open
  module _ {C : Type 0} (t : Topology) where
    pub told_before : (world : Option (Network C)) → is_some world ≡ true → opening_told tale choice t world ≡ []
    told_before None is = absurd (cc is)
    told_before (Some n) is = refl

    pub known_before : (world : Option (Network C)) (known : S) → is_some world ≡ true → opening_known tale choice t world known ≡ known
    known_before None known is = absurd (cc is)
    known_before (Some n) known is = refl

  -- *The end* is told
  module _ {C : Type 0} (seen : C → Controller) where
    ends_as : (script : Script) (placed : List Placed) (refused : Option Refused) (r : Replay C) (n : Network C) (t : Topology) (lines : ℕ) → IsWhole seen choice script placed refused r → t ≡ r.state.topology → lines ≡ r.state.event_lines
        → IsOpen seen (choice r.state.topology) r.state r.notes n script.events
        → tale.ends t (world_of seen n no_notes) (record { event_lines = lines; refused = refused }) ≡ told_at_last tale (choice script.topology) script
    ends_as script placed refused r n t lines whole named counted o =
        let a : t ≡ script.topology = named ∙ sym whole.topology in
        let b : world_of seen n no_notes ≡ unnoted (world_behind choice script.topology script.events) =
        ap unnoted o.world ∙ ap (λ (u : Topology). unnoted (world_behind choice u script.events)) (sym whole.topology) in
        let c : lines ≡ script.event_lines = counted ∙ sym whole.event_lines in
        let d : refused ≡ script.refused = sym whole.refusal in
        λ i. tale.ends (a i) (b i) (record { event_lines = c i; refused = d i })

    opens_as : (script : Script) (placed : List Placed) (refused : Option Refused) (r : Replay C) → IsWhole seen choice script placed refused r
        → opening_told tale choice r.state.topology r.world ≡ (if script.event_lines == 0 then (told_to script.topology placed).octets else [])
    opens_as script placed refused r whole =
        opening_last seen r.state r.notes r.world placed (subst (HasNetwork seen choice r.state r.notes r.world) whole.events whole.network)
        ∙ (λ i. if (sym whole.event_lines i) == 0 then (told_to (sym whole.topology i) placed).octets else [])

    pub end_told : (script : Script) (placed : List Placed) (refused : Option Refused) (r : Replay C) (n : Network C) (t : Topology) (lines : ℕ) (result : Result (Unit {0}) Stop) (a b c : Writer) (x y z : Option (List ℕ))
        → IsWhole seen choice script placed refused r → t ≡ r.state.topology → lines ≡ r.state.event_lines → IsOpen seen (choice r.state.topology) r.state r.notes n script.events
        → IsPut a b x y (opening_told tale choice r.state.topology r.world) → Puts result b c y z (tale.ends t (world_of seen n no_notes) (record { event_lines = lines; refused = refused }))
        → Puts result a c x z (last_told tale (choice script.topology) script placed)
    end_told script placed refused r n t lines result a b c x y z whole named counted o p q =
        subst (Puts result a c x z) (λ i. opens_as script placed refused r whole i ++ ends_as script placed refused r n t lines whole named counted o i)
        (puts_then result a b c x y z (opening_told tale choice r.state.topology r.world) (tale.ends t (world_of seen n no_notes) (record { event_lines = lines; refused = refused })) p q)

    -- no network came of it
    pub end_none : (script : Script) (placed : List Placed) (refused : Option Refused) (r : Replay C) (result : Result (Unit {0}) Stop) (stop : Stop) (a b : Writer) (x y : Option (List ℕ)) → IsErrAnd result (λ s. s ≡ stop)
        → IsWhole seen choice script placed refused r → StopsIn stop a b x y (opening_told tale choice r.state.topology r.world) → Puts result a b x y (last_told tale (choice script.topology) script placed)
    end_none script placed refused r (Ok v) stop a b x y e whole left = absurd e
    end_none script placed refused r (Err s) stop a b x y e whole left =
        subst (λ xs. StopsIn s a b x y (xs ++ told_at_last tale (choice script.topology) script)) (opens_as script placed refused r whole)
        (subst (λ (q : Stop). StopsIn q a b x y (opening_told tale choice r.state.topology r.world ++ told_at_last tale (choice script.topology) script)) (sym e)
        (stops_before stop a b x y (opening_told tale choice r.state.topology r.world) (told_at_last tale (choice script.topology) script) left))
