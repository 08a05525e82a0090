-- what is so stays so: where a cell is lost, a command joins, requests are asked and answered, and the switch carries one out

use Rattle.std.proofs.Common.{◌≡◌, ℕ, ◌+◌, ◌<◌, ◌≤◌, Bool, true, false, List, [], ◌∷◌, ◌++◌, length, take, drop, slice_get, slice_set, slice_index_or, Some, refl, sym, ◌∙◌, ap, subst, arith, ◌⊎◌, inl, inr, length-set}
use Rattle.std.proofs.lemmas.List.{length_push}
use Rattle.std.specs.FinMap.{get}
use Rattle.world_model.specs.Words.{Cell, Branches, Request, Frame, Standing}
use Rattle.world_model.specs.gsmp_wire.declared.request.Request.TheVariants.{AllPorts}
use Rattle.ordered_lists.specs.Ordered.{Every}
use Rattle.ordered_lists.proofs.Every.{every_join}
use Rattle.world_model.specs.switch_model.declared.port.PortState.{PortState}
use Rattle.console_model.specs.declared.reply.Reply.{Reply}
use Rattle.console_model.specs.Plain.{Links, answer, after, map_after, answers_of}
use Rattle.law_console.specs.Again.{IsSame}
use Rattle.law_console.specs.Words.{Stood, Nothing, Lists, Commands, IsCommand, first_rows, Asks, Answers, AreAsked}
use Rattle.law_console.specs.Kept.{View, made_in, course, IsFirst, Stands, IsKnown, Leads, IsKept}
use Rattle.law_console.proofs.Again.{come_twice}
use Rattle.law_console.proofs.Cells.{Goes, no_more, asks_on, answers_on, lowered, rises}
use Rattle.law_console.proofs.Views.{first_set}
use Rattle.law_console.proofs.Along.{at_front, front_kept, place_below, map_further, answers_further}

module _ (ports : ℕ) where
  -- *More may be asked*
  pub more : (most carried : ℕ) (stood : Stood) (v : View) → IsKept ports most carried stood v → IsKept ports (most + 1) carried stood v
  more most carried stood v h = record {
    requests = h.requests;
    answers = h.answers;
    answered = h.answered;
    next = h.next;
    within = h.within;
    has_ports = h.has_ports;
    paths = h.paths;
    map = h.map;
    has_queue = h.has_queue;
    stands = h.stands;
    known = h.known;
    few = omega (arith, h.few);
    waits = h.waits;
    comes = h.comes;
  }

  module _ (most carried : ℕ) where
    -- *The first cell of a queue goes*
    pub cell_taken : (stood : Stood) (v : View) (cell : Cell) (cells : List Cell) → v.waiting ≡ cell ∷ cells → IsKept ports most carried stood v
        → (after : ℕ) × (Asks ports (course carried stood v) (made_in v) carried after cell × AreAsked ports (course carried stood v) (made_in v) after cells)
    cell_taken stood v cell cells e h = subst (AreAsked ports (course carried stood v) (made_in v) carried) e h.waits

    pub cell_gone : (stood : Stood) (v : View) (cell : Cell) (cells : List Cell) → v.waiting ≡ cell ∷ cells → IsKept ports most carried stood v → IsKept ports most carried stood (record v { waiting = cells })
    cell_gone stood v cell cells e h =
        let t = cell_taken stood v cell cells e h in
        record {
          requests = h.requests;
          answers = h.answers;
          answered = h.answered;
          next = h.next;
          within = h.within;
          has_ports = h.has_ports;
          paths = h.paths;
          map = h.map;
          has_queue = h.has_queue;
          stands = h.stands;
          known = h.known;
          few = h.few;
          waits = lowered ports (course carried stood v) (made_in v) cells carried t.0 (rises ports (course carried stood v) (made_in v) carried t.0 t.1.0.payload t.1.0.asked) t.1.1;
          comes = h.comes;
        }

    pub answer_taken : (stood : Stood) (v : View) (cell : Cell) (cells : List Cell) → slice_index_or v.queues 0 [] ≡ cell ∷ cells → IsKept ports most carried stood v → Answers ports (course carried stood v) (made_in v) cell
    answer_taken stood v cell cells e h = (subst (Every (Answers ports (course carried stood v) (made_in v))) e h.comes).0

    pub answer_gone : (stood : Stood) (v : View) (cell : Cell) (cells : List Cell) → slice_index_or v.queues 0 [] ≡ cell ∷ cells → IsKept ports most carried stood v
        → IsKept ports most carried stood (record v { queues = slice_set v.queues 0 (drop 1 (slice_index_or v.queues 0 [])) })
    answer_gone stood v cell cells e h = record {
      requests = h.requests;
      answers = h.answers;
      answered = h.answered;
      next = h.next;
      within = h.within;
      has_ports = h.has_ports;
      paths = h.paths;
      map = h.map;
      has_queue = omega (arith, h.has_queue, length-set v.queues 0 (drop 1 (slice_index_or v.queues 0 [])));
      stands = h.stands;
      known = h.known;
      few = h.few;
      waits = h.waits;
      comes = subst (Every (Answers ports (course carried stood v) (made_in v))) (sym (first_set v.queues (drop 1 (slice_index_or v.queues 0 [])) h.has_queue ∙ ap (drop 1) e))
          (subst (Every (Answers ports (course carried stood v) (made_in v))) e h.comes).1;
    }

    -- *Outside Estab* nothing has to be known
    pub opened : (stood : Stood) (v : View) (estab : Bool) → (estab ≡ true → v.is_estab ≡ true) → IsKept ports most carried stood v → IsKept ports most carried stood (record v { is_estab = estab })
    opened stood v estab was h = record {
      requests = h.requests;
      answers = h.answers;
      answered = h.answered;
      next = h.next;
      within = h.within;
      has_ports = h.has_ports;
      paths = h.paths;
      map = h.map;
      has_queue = h.has_queue;
      stands = h.stands;
      known = by stood h.known;
      few = h.few;
      waits = h.waits;
      comes = h.comes;
    }
      where
        by : (stood : Stood) → IsKnown ports v.is_estab v.desk stood → IsKnown ports estab v.desk stood
        by Nothing known = λ e. known (was e)
        by (Lists number) known = tt
        by (Commands number) known = tt

    pub closed : (stood : Stood) (v : View) → IsKept ports most carried stood v → IsKept ports most carried stood (record v { is_estab = false })
    closed stood v h = opened stood v false (λ e. absurd (cc e)) h

    -- *A command joins*
    first_more : (stood : Stood) (v : View) (q : Request) → IsKept ports most carried stood v → Stands ports (v.commands ++ q ∷ []) (length v.answers) v.desk stood
    first_more Nothing v q h = h.stands
    first_more (Lists number) v q h = h.stands
    first_more (Commands number) v q h = (let s : IsFirst ports v.commands (length v.answers) v.desk number = h.stands in
        record { command = s.command; stands = s.stands; first = at_front v.commands (q ∷ []) (length v.answers) s.command s.first; known = s.known })

    pub joined : (stood : Stood) (v : View) (q : Request) → IsCommand q → IsKept ports most carried stood v → IsKept ports most carried stood (record v { commands = v.commands ++ q ∷ [] })
    joined stood v q is h =
        let w : View = record v { commands = v.commands ++ q ∷ [] } in
        let goes : Goes (course carried stood v) (course carried stood w) = record {
          commands = λ place x e. at_front v.commands (q ∷ []) place x e;
          before = λ place x e. (let low : place < length v.commands = place_below v.commands place x e in front_kept v.commands (q ∷ []) place (omega (arith, low)));
          answered = omega arith;
          carried = omega arith;
          next = omega arith;
          list = λ number low suits. suits;
          command = λ number place low suits. suits;
        } in
        record {
          requests = every_join IsCommand v.commands (q ∷ []) h.requests (is, tt);
          answers = h.answers ∙ ap (answers_of ports) (sym (front_kept v.commands (q ∷ []) (length v.answers) (omega (arith, h.answered, h.within))));
          answered = h.answered;
          next = h.next;
          within = omega (arith, h.within, length_push v.commands q);
          has_ports = h.has_ports;
          paths = h.paths;
          map = subst (λ (commands : List Request). Leads v.branches (map_after ports commands)) (sym (front_kept v.commands (q ∷ []) carried h.within)) h.map;
          has_queue = h.has_queue;
          stands = first_more stood v q h;
          known = h.known;
          few = h.few;
          waits = asks_on ports (course carried stood v) (course carried stood w) (made_in v) (made_in w) goes (no_more (made_in v)) v.waiting carried h.waits;
          comes = answers_on ports (course carried stood v) (course carried stood w) (made_in v) (made_in w) goes (no_more (made_in v)) (slice_index_or v.queues 0 []) h.comes;
        }

    -- *All Ports is asked*, whatever stood
    abbrev pub listing : View → View
    listing v = record v { desk = record { next = v.desk.next + 1; standing = record { number = v.desk.next; request = AllPorts } ∷ []; rows = v.desk.rows } }

    pub list_stands : (stood : Stood) (v : View) (estab : Bool) → IsKept ports most carried stood (record v { is_estab = false }) → IsKept ports (most + 1) carried (Lists v.desk.next) (listing (record v { is_estab = estab }))
    list_stands stood v estab h =
        let w : View = listing (record v { is_estab = estab }) in
        let goes : Goes (course carried stood v) (course carried (Lists v.desk.next) w) = record {
          commands = λ place q e. e;
          before = λ place q e. refl;
          answered = omega arith;
          carried = omega arith;
          next = omega arith;
          list = λ number low suits. tt;
          command = λ number place low suits same. absurd (omega (arith, low, same));
        } in
        record {
          requests = h.requests;
          answers = h.answers;
          answered = h.answered;
          next = h.next;
          within = h.within;
          has_ports = h.has_ports;
          paths = h.paths;
          map = h.map;
          has_queue = h.has_queue;
          stands = record { standing = refl; early = omega arith };
          known = tt;
          few = omega (arith, h.few);
          waits = asks_on ports (course carried stood v) (course carried (Lists v.desk.next) w) (made_in v) (made_in w) goes (no_more (made_in v)) v.waiting carried h.waits;
          comes = answers_on ports (course carried stood v) (course carried (Lists v.desk.next) w) (made_in v) (made_in w) goes (no_more (made_in v)) (slice_index_or v.queues 0 []) h.comes;
        }

    -- *The first command that isn't answered is asked*
    abbrev pub commanding : View → Request → View
    commanding v q = record v { desk = record { next = v.desk.next + 1; standing = record { number = v.desk.next; request = q } ∷ []; rows = v.desk.rows } }

    pub command_stands : (v : View) (q : Request) → slice_get v.commands (length v.answers) ≡ Some q → v.desk.rows ≡ first_rows ports → IsKept ports most carried Nothing v
        → IsKept ports (most + 1) carried (Commands v.desk.next) (commanding v q)
    command_stands v q first known h =
        let w : View = commanding v q in
        let goes : Goes (course carried Nothing v) (course carried (Commands v.desk.next) w) = record {
          commands = λ place q e. e;
          before = λ place q e. refl;
          answered = omega arith;
          carried = omega arith;
          next = omega arith;
          list = λ number low suits same. absurd (omega (arith, low, same));
          command = λ number place low suits same. absurd (omega (arith, low, same));
        } in
        record {
          requests = h.requests;
          answers = h.answers;
          answered = h.answered;
          next = h.next;
          within = h.within;
          has_ports = h.has_ports;
          paths = h.paths;
          map = h.map;
          has_queue = h.has_queue;
          stands = record { command = q; stands = record { standing = refl; early = omega arith }; first = first; known = known };
          known = tt;
          few = omega (arith, h.few);
          waits = asks_on ports (course carried Nothing v) (course carried (Commands v.desk.next) w) (made_in v) (made_in w) goes (no_more (made_in v)) v.waiting carried h.waits;
          comes = answers_on ports (course carried Nothing v) (course carried (Commands v.desk.next) w) (made_in v) (made_in w) goes (no_more (made_in v)) (slice_index_or v.queues 0 []) h.comes;
        }

    -- *All Ports is answered*
    pub listed : (stood : Stood) (v : View) (standing : List Standing) → standing ≡ [] → IsKept ports most carried stood v
        → IsKept ports most carried Nothing (record v { desk = record { next = v.desk.next; standing = standing; rows = first_rows ports } })
    listed stood v standing none h =
        let w : View = record v { desk = record { next = v.desk.next; standing = standing; rows = first_rows ports } } in
        let goes : Goes (course carried stood v) (course carried Nothing w) = record {
          commands = λ place q e. e;
          before = λ place q e. refl;
          answered = omega arith;
          carried = omega arith;
          next = omega arith;
          list = λ number low suits. tt;
          command = λ number place low suits. tt;
        } in
        record {
          requests = h.requests;
          answers = h.answers;
          answered = h.answered;
          next = h.next;
          within = h.within;
          has_ports = h.has_ports;
          paths = h.paths;
          map = h.map;
          has_queue = h.has_queue;
          stands = none;
          known = λ e. refl;
          few = h.few;
          waits = asks_on ports (course carried stood v) (course carried Nothing w) (made_in v) (made_in w) goes (no_more (made_in v)) v.waiting carried h.waits;
          comes = answers_on ports (course carried stood v) (course carried Nothing w) (made_in v) (made_in w) goes (no_more (made_in v)) (slice_index_or v.queues 0 []) h.comes;
        }

    -- *A command is answered*
    pub answered : (stood : Stood) (v : View) (q : Request) (reply : Reply) (standing : List Standing) → standing ≡ [] → slice_get v.commands (length v.answers) ≡ Some q → v.desk.rows ≡ first_rows ports
        → length v.answers < carried → reply ≡ answer ports (map_after ports (take (length v.answers) v.commands)) q → IsKept ports most carried stood v
        → IsKept ports most carried Nothing (record v { answers = v.answers ++ reply ∷ []; desk = record { next = v.desk.next; standing = standing; rows = v.desk.rows } })
    answered stood v q reply standing none first known low right h =
        let w : View = record v { answers = v.answers ++ reply ∷ []; desk = record { next = v.desk.next; standing = standing; rows = v.desk.rows } } in
        let longer : length (v.answers ++ reply ∷ []) ≡ length v.answers + 1 = length_push v.answers reply in
        let goes : Goes (course carried stood v) (course carried Nothing w) = record {
          commands = λ place q e. e;
          before = λ place q e. refl;
          answered = omega (arith, longer);
          carried = omega arith;
          next = omega arith;
          list = λ number low suits. tt;
          command = λ number place low suits. tt;
        } in
        record {
          requests = h.requests;
          answers = (λ i. h.answers i ++ right i ∷ []) ∙ sym (answers_further ports v.commands (length v.answers) q first) ∙ sym (ap (λ (n : ℕ). answers_of ports (take n v.commands)) longer);
          answered = omega (arith, longer, low);
          next = omega (arith, longer, h.next);
          within = h.within;
          has_ports = h.has_ports;
          paths = h.paths;
          map = h.map;
          has_queue = h.has_queue;
          stands = none;
          known = λ e. known;
          few = h.few;
          waits = asks_on ports (course carried stood v) (course carried Nothing w) (made_in v) (made_in w) goes (no_more (made_in v)) v.waiting carried h.waits;
          comes = answers_on ports (course carried stood v) (course carried Nothing w) (made_in v) (made_in w) goes (no_more (made_in v)) (slice_index_or v.queues 0 []) h.comes;
        }

    -- *The switch carries a command out*: the next one, or the last one again
    pub record IsAgain (v : View) (place : ℕ) (q : Request) : Type 0 where
      pub answer : answer ports (map_after ports (take carried v.commands)) q ≡ answer ports (map_after ports (take place v.commands)) q
      pub map : IsSame (after ports (map_after ports (take carried v.commands)) q) (map_after ports (take (place + 1) v.commands))

    next_or_last : (place : ℕ) → place ≤ carried → carried ≤ place + 1 → (carried ≡ place) ⊎ (carried ≡ place + 1)
    next_or_last place least most = grind arith

    pub is_again : (v : View) (place : ℕ) (q : Request) → slice_get v.commands place ≡ Some q → place ≤ carried → carried ≤ place + 1 → IsAgain v place q
    is_again v place q command least most = elim (next_or_last place least most) [
      | inl same ↦ record {
        answer = ap (λ (n : ℕ). answer ports (map_after ports (take n v.commands)) q) same;
        map = λ input. ap (λ (n : ℕ). get (after ports (map_after ports (take n v.commands)) q) input) same ∙ ap (λ (m : Links). get m input) (sym (map_further ports v.commands place q command));
      }
      | inr one ↦ (let m : Links = map_after ports (take place v.commands) in
          let last : map_after ports (take carried v.commands) ≡ after ports m q = ap (λ (n : ℕ). map_after ports (take n v.commands)) one ∙ map_further ports v.commands place q command in
          record {
            answer = ap (λ (x : Links). answer ports x q) last ∙ (come_twice ports m q).answer;
            map = λ input. ap (λ (x : Links). get (after ports x q) input) last ∙ (come_twice ports m q).map input ∙ ap (λ (x : Links). get x input) (sym (map_further ports v.commands place q command));
          })
    ]

    pub carried_out : (stood : Stood) (v : View) (place : ℕ) (q : Request) (cells : List Cell) (branches : Branches) → slice_get v.commands place ≡ Some q → place ≤ length v.answers → carried ≤ place + 1
        → AreAsked ports (course carried stood v) (made_in v) (place + 1) cells → Leads branches (after ports (map_after ports (take carried v.commands)) q) → IsKept ports most carried stood v
        → IsKept ports most (place + 1) stood (record v { branches = branches; waiting = cells })
    carried_out stood v place q cells branches command low least waits leads h =
        let w : View = record v { branches = branches; waiting = cells } in
        let again : IsAgain v place q = is_again v place q command (omega (arith, low, h.answered)) least in
        let below : place < length v.commands = place_below v.commands place q command in
        let goes : Goes (course carried stood v) (course (place + 1) stood w) = record {
          commands = λ place q e. e;
          before = λ place q e. refl;
          answered = omega arith;
          carried = least;
          next = omega arith;
          list = λ number low suits. suits;
          command = λ number place low suits. suits;
        } in
        record {
          requests = h.requests;
          answers = h.answers;
          answered = omega (arith, h.answered, least);
          next = omega (arith, low);
          within = omega (arith, below);
          has_ports = h.has_ports;
          paths = h.paths;
          map = λ input. leads input ∙ again.map input;
          has_queue = h.has_queue;
          stands = h.stands;
          known = h.known;
          few = h.few;
          waits = asks_on ports (course carried stood v) (course (place + 1) stood w) (made_in v) (made_in w) goes (no_more (made_in v)) cells (place + 1) waits;
          comes = answers_on ports (course carried stood v) (course (place + 1) stood w) (made_in v) (made_in w) goes (no_more (made_in v)) (slice_index_or v.queues 0 []) h.comes;
        }

    -- ports, queues and frames that are the same
    pub renewed : (stood : Stood) (v : View) (states : List PortState) (paths : ℕ) (queues : List (List Cell)) (frames : List Frame) → states ≡ v.ports → paths ≡ v.vpis → queues ≡ v.queues → frames ≡ v.frames
        → IsKept ports most carried stood v → IsKept ports most carried stood (record v { ports = states; vpis = paths; queues = queues; frames = frames })
    renewed stood v states paths queues frames e f g k h =
        subst (λ (states : List PortState). IsKept ports most carried stood (record v { ports = states; vpis = paths; queues = queues; frames = frames })) (sym e)
        (subst (λ (paths : ℕ). IsKept ports most carried stood (record v { vpis = paths; queues = queues; frames = frames })) (sym f)
        (subst (λ (queues : List (List Cell)). IsKept ports most carried stood (record v { queues = queues; frames = frames })) (sym g)
        (subst (λ (frames : List Frame). IsKept ports most carried stood (record v { frames = frames })) (sym k) h)))
