-- a tick of the controller of a mirrored node, at peace

use Rattle.std.proofs.Common.{◌≡◌, ℕ, suc, ◌+◌, ◌≤◌, Bool, true, false, not, List, [], ◌∷◌, ◌++◌, append_assoc, append-nil, length, length-append, map, filter, fold, Option, Some, refl, sym, ◌∙◌, ap, subst, arith, if◌then◌else◌}
use Rattle.std.proofs.lemmas.List.{append_cancel_left, map-append, length-map}
use Rattle.world_model.specs.Words.{NodeId, Down, Mark, Cell, Frame, default_channel, Request, AddBranch, MoveBranch, DeleteTree, VerifyTree, PortManagement, PortRow, Desk, Standing, withdraws, message_of, is_request, Switch, Topology, World, Site, site_at, controller_acts, put_away, next}
use Rattle.world_model.specs.gsmp_wire.Layout.{octets_of}
use Rattle.world_model.specs.gsmp_wire.declared.message.Message.TheVariants.{Adjacency}
use Rattle.world_model.specs.gsmp_wire.declared.request.Request.TheVariants.{DeleteAll, AllPorts}
use Rattle.world_model.specs.Controller.{Acted}
use Rattle.world_model.specs.port_model.Desk.{asked}
use Rattle.world_model.specs.switch_model.declared.request.Asked.{Asked}
use Rattle.world_model.specs.Ticks.{ticks}
use Rattle.world_model.specs.network_model.declared.event.Event.TheVariants.{Tick}
use Rattle.law_port_facts.specs.ordered_lists.Ordered.{Every}
use Rattle.law_passing.specs.telling_model.Passing.{cells_put_at}
use Rattle.law_passing.proofs.Controllers.{ticks_adds}
use Rattle.law_passing.proofs.Worlds.{change_by_passing}
use Rattle.law_live_hearing.proofs.Sites.{queue_of_site}
use Rattle.law_live_saying.specs.Law.{ticking}
use Rattle.law_live_control_links.proofs.Sites.{controller_here, controller_frames}
use Rattle.law_live_control.proofs.Reading.{read_as}
use Rattle.law_live_orders.specs.Law.{last_marks}
use Rattle.law_live_mirrors.specs.Fit.{IsFit}
use Rattle.law_live_mirrors.specs.Asking.{KeepsMirrors}
use Rattle.law_live_mirrored_ticks.specs.Law.{MayTick}
use Rattle.law_live_mirrored_ticks.proofs.Ticking.{ticks_keep}
use Rattle.law_live_mirrored_worlds.specs.Way.{AreAsked, none, asking, passed, requests_of, IsMirroredIn}
use Rattle.law_live_mirrored_worlds.specs.Law.{Keeps, AsksIn, AsksSome}
use Rattle.law_live_mirrored_worlds.specs.Ticks.{TicksPut, IsWritten, TicksPutSome, TicksPutWhatTheyAsk, TicksAsk, TicksMirror}
use Rattle.law_live_mirrored_worlds.proofs.Sites.{one_site}
use Rattle.law_live_mirrored_worlds.proofs.Events.{controllers_mirror, steps_keep}
use Rattle.law_live_mirrored_worlds.proofs.Sending.{AreTold, none as none_told, tells, greets, Sends, Moves}
use Rattle.law_live_mirrored_worlds.proofs.Telling.{tick_goes}

-- *Where nothing is left out*, all is kept
filter_shorter : {A : Type 0} (kept : A → Bool) (xs : List A) → length (filter kept xs) ≤ length xs
filter_shorter kept [] = omega arith
filter_shorter kept (x ∷ xs) = elim (kept x) as (λ b. length (if b then x ∷ filter kept xs else filter kept xs) ≤ suc (length xs)) [
  | true ↦ (let less : length (filter kept xs) ≤ length xs = filter_shorter kept xs in omega (arith, less))
  | false ↦ (let less : length (filter kept xs) ≤ length xs = filter_shorter kept xs in omega (arith, less))
]

filter_all : {A : Type 0} (kept : A → Bool) (xs : List A) → length (filter kept xs) ≡ length xs → filter kept xs ≡ xs
filter_all kept [] all = refl
filter_all {A} kept (x ∷ xs) all = elim (kept x) as (λ b. length (if b then x ∷ filter kept xs else filter kept xs) ≡ suc (length xs) → (if b then x ∷ filter kept xs else filter kept xs) ≡ x ∷ xs) [
  | true ↦ λ all. ap (λ (ys : List A). x ∷ ys) (filter_all kept xs (one_less all))
  | false ↦ λ all. absurd (too_few (filter_shorter kept xs) all)
] all
  where
    one_less : {m n : ℕ} → suc m ≡ suc n → m ≡ n
    one_less e = omega (arith, e)

    too_few : {m n : ℕ} → m ≤ n → m ≡ suc n → ⊥
    too_few less e = absurd (omega (arith, less, e))

-- *Each request that is asked* draws a number, and all stand if as many do
numbers_drawn : (requests : List Request) (desk : Desk) → (fold asked desk requests).next ≡ desk.next + length requests
numbers_drawn [] desk = omega arith
numbers_drawn (request ∷ requests) desk = (let rest : (fold asked (asked desk request) requests).next ≡ (desk.next + 1) + length requests = numbers_drawn requests (asked desk request) in omega (arith, rest))

abbrev request_of : Standing → Request
request_of s = s.request

module _ (desk : Desk) (request : Request) where
  abbrev left_over : List Standing
  left_over = filter (λ (s : Standing). not (withdraws request s.request)) desk.standing

  abbrev new : Standing
  new = record { number = desk.next; request = request }

  one_more : length (asked desk request).standing ≡ length left_over + 1
  one_more = length-append left_over (new ∷ [])

  stands_longer : length (asked desk request).standing ≤ length desk.standing + 1
  stands_longer = (let less : length left_over ≤ length desk.standing = filter_shorter (λ (s : Standing). not (withdraws request s.request)) desk.standing in omega (arith, less, one_more))

  stands_last : length (asked desk request).standing ≡ length desk.standing + 1 → map request_of (asked desk request).standing ≡ map request_of desk.standing ++ request ∷ []
  stands_last all = map-append request_of left_over (new ∷ [])
      ∙ ap (λ (standing : List Standing). map request_of standing ++ request ∷ [])
      (filter_all (λ (s : Standing). not (withdraws request s.request)) desk.standing (same (length (asked desk request).standing) (length left_over) (length desk.standing) one_more all))
    where
      same : (k m n : ℕ) → k ≡ m + 1 → k ≡ n + 1 → m ≡ n
      same k m n p q = omega (arith, p, q)

most_stand : (requests : List Request) (desk : Desk) → length (fold asked desk requests).standing ≤ length desk.standing + length requests
most_stand [] desk = omega arith
most_stand (request ∷ requests) desk =
    let rest : length (fold asked (asked desk request) requests).standing ≤ length (asked desk request).standing + length requests = most_stand requests (asked desk request) in
    let one : length (asked desk request).standing ≤ length desk.standing + 1 = stands_longer desk request in omega (arith, rest, one)

all_stand : (requests : List Request) (desk : Desk) → length (fold asked desk requests).standing ≡ length desk.standing + length requests
    → map request_of (fold asked desk requests).standing ≡ map request_of desk.standing ++ requests
all_stand [] desk all = sym (append-nil (map request_of desk.standing))
all_stand (request ∷ requests) desk all = all_stand requests next (rest whole (length next.standing) (length desk.standing) (length requests) most one all)
    ∙ (ap (λ (rs : List Request). rs ++ requests) (stands_last desk request (first whole (length next.standing) (length desk.standing) (length requests) most one all))
    ∙ append_assoc (map request_of desk.standing) (request ∷ []) requests)
  where
    next : Desk
    next = asked desk request

    whole : ℕ
    whole = length (fold asked next requests).standing

    most : whole ≤ length next.standing + length requests
    most = most_stand requests next

    one : length next.standing ≤ length desk.standing + 1
    one = stands_longer desk request

    rest : (k m n l : ℕ) → k ≤ m + l → m ≤ n + 1 → k ≡ n + suc l → k ≡ m + l
    rest k m n l p q e = omega (arith, p, q, e)

    first : (k m n l : ℕ) → k ≤ m + l → m ≤ n + 1 → k ≡ n + suc l → m ≡ n + 1
    first k m n l p q e = omega (arith, p, q, e)

-- so they are known by what stands, where nothing stood
are_these : (requests these : List Request) (before after : Desk) → before.standing ≡ [] → after ≡ fold asked before requests → map request_of after.standing ≡ these → after.next ≡ before.next + length these
    → requests ≡ these
are_these requests these before after empty is stand numbers =
    sym (ap (λ (standing : List Standing). map request_of standing ++ requests) empty) ∙ (sym (all_stand requests before all) ∙ (ap (λ (desk : Desk). map request_of desk.standing) (sym is) ∙ stand))
  where
    as_many : length requests ≡ length these
    as_many = by before.next (length requests) (length these) (sym (ap (λ (desk : Desk). desk.next) is ∙ numbers_drawn requests before) ∙ numbers)
      where
        by : (k m n : ℕ) → k + m ≡ k + n → m ≡ n
        by k m n e = omega (arith, e)

    behind_none : (n : ℕ) → n ≡ 0 + n
    behind_none n = omega arith

    all : length (fold asked before requests).standing ≡ length before.standing + length requests
    all = ap (λ (desk : Desk). length desk.standing) (sym is)
        ∙ (sym (length-map after.standing request_of) ∙ (ap (λ (rs : List Request). length rs) stand ∙ (sym as_many ∙ (behind_none (length requests) ∙ sym (ap (λ (standing : List Standing). length standing + length requests) empty)))))

asks_what_it_puts : (topology : Topology) (w : World) (node : NodeId) (site : Site) (these : List Asked) → site_at w node ≡ Some site → MayTick (ticking w site) → TicksPut topology w node site these
    → AsksIn topology w node (Tick node) these
asks_what_it_puts topology w node site these found may put = record {
  puts = put.puts;
  fit = λ other there. subst (λ (s : Site). Every (IsFit s.switch) these) (one_site site other (sym found ∙ there)) put.fit;
  keeps = λ other now there behind. subst (λ (s : Site). Keeps s.controller now.controller (requests_of these)) (one_site site other (sym found ∙ there))
      (subst (λ (s : Site). Keeps site.controller s.controller (requests_of these)) (one_site ticked now (sym is_ticked ∙ behind)) (kept (ticks_keep (ticking w site) may)));
}
  where
    ticked : Site
    ticked = record site { controller = (ticks (ticking w site)).controller }

    is_ticked : site_at (next topology w (Tick node)) node ≡ Some ticked
    is_ticked = controller_here (put_away w) node site found ticks (λ b. (ticks_adds b).node)

    kept : KeepsMirrors (ticking w site) (ticks (ticking w site)) → Keeps site.controller ticked.controller (requests_of these)
    kept k = subst (Keeps site.controller ticked.controller)
        (are_these k.requests (requests_of these) site.controller.desk ticked.controller.desk may.peace.nothing_asked k.asks.desk put.stand
        (put.numbers ∙ ap (λ n. site.controller.desk.next + n) (sym (length-map these (λ (one : Asked). one.request)))))
        (steps_keep.asks (ticking w site) (ticks (ticking w site)) k.requests k.asks)

-- *What is told is asked*
asks_always : (rows : List PortRow) (number : ℕ) (request : Request) → is_request (message_of rows number request) ≡ true
asks_always rows number (AddBranch input output) = refl
asks_always rows number (MoveBranch input from to) = refl
asks_always rows number (DeleteTree input) = refl
asks_always rows number (VerifyTree input) = refl
asks_always rows number (DeleteAll port) = refl
asks_always rows number (PortManagement port function) = refl
asks_always rows number AllPorts = refl

module _ (switch : Switch) (frames : List Frame) (rows : List PortRow) where
  record Are (marks : List Mark) (standing : List Standing) : Type 0 where
    asked : List Asked
    are : AreAsked frames marks asked
    fit : Every (IsFit switch) asked
    requests : map request_of standing ≡ requests_of asked

  are_asked : (marks : List Mark) (standing : List Standing) → Every (IsWritten switch rows) standing → AreTold frames rows marks standing → Are marks standing
  are_asked [] standing written none_told = record { asked = []; are = none; fit = tt; requests = refl }
  are_asked (mark ∷ marks) (s ∷ standing) written (tells own one is later) =
      let rest : Are marks standing = are_asked marks standing written.1 later in
      let one_asked : Asked = record { session = written.0.asks.session; request = one.request } in
      record {
        asked = one_asked ∷ rest.asked;
        are = asking own one_asked (record {
          payload = octets_of (message_of rows one.number one.request);
          made = is;
          message = message_of rows one.number one.request;
          read = written.0.reads;
          request = asks_always rows one.number one.request;
          asks = written.0.asks.is;
        }) rest.are;
        fit = (written.0.asks.fit, rest.fit);
        requests = ap (λ (rs : List Request). one.request ∷ rs) rest.requests;
      }
  are_asked (mark ∷ marks) standing written (greets own greeting is later) =
      let rest : Are marks standing = are_asked marks standing written later in
      record {
        asked = rest.asked;
        are = passed own (record { payload = octets_of (Adjacency greeting); made = is; no_request = λ message read. ap is_request (read_as (Adjacency greeting) message read) }) rest.are;
        fit = rest.fit;
        requests = rest.requests;
      }

-- *A tick at peace*
module _ (topology : Topology) (w : World) (node : NodeId) (site : Site) (found : site_at w node ≡ Some site) where
  abbrev v : World
  v = next topology w (Tick node)

  abbrev a : Acted
  a = ticking w site

  abbrev put : List Cell
  put = cells_put_at topology w (Tick node) (Down node)

  now_there : site_at v node ≡ Some (record site { controller = (ticks a).controller })
  now_there = controller_here (put_away w) node site found ticks (λ b. (ticks_adds b).node)

  frames_now : v.notes.frames ≡ (ticks a).notes.frames
  frames_now = controller_frames (put_away w) node site found ticks (λ b. (ticks_adds b).node)

  entries_now : v.notes.entries ≡ (ticks a).notes.entries
  entries_now = ap (λ (o : Option Site). (controller_acts (put_away w) o ticks).notes.entries) found

  put_is : (more : List Cell) → (ticks a).controller.queue ≡ site.controller.queue ++ more → put ≡ more
  put_is more is = append_cancel_left site.controller.queue put more
      (ap (λ (q : List Cell). q ++ put) (sym (queue_of_site w node site (Down node) found)) ∙ (sym (change_by_passing topology w (Tick node) (Down node))
      ∙ (queue_of_site v node (record site { controller = (ticks a).controller }) (Down node) now_there ∙ is)))

  by_sending : a.controller.desk.standing ≡ [] → Every (IsWritten site.switch site.controller.desk.rows) (ticks a).controller.desk.standing → Sends a (ticks a) → TicksPutSome topology w node site
  by_sending nothing written s = by (are_asked site.switch v.notes.frames site.controller.desk.rows (last_marks default_channel put) s.asked
      (subst (Every (IsWritten site.switch site.controller.desk.rows)) all_asked written)
      (subst (λ (frames : List Frame). AreTold frames site.controller.desk.rows (last_marks default_channel put) s.asked) (sym frames_now)
      (subst (λ (cells : List Cell). AreTold (ticks a).notes.frames site.controller.desk.rows (last_marks default_channel cells) s.asked) (sym (put_is s.more s.queue)) s.told)))
    where
      all_asked : (ticks a).controller.desk.standing ≡ s.asked
      all_asked = s.standing ∙ ap (λ (standing : List Standing). standing ++ s.asked) nothing

      by : Are site.switch v.notes.frames site.controller.desk.rows (last_marks default_channel put) s.asked → TicksPutSome topology w node site
      by r = record {
        asked = r.asked;
        put = record {
          puts = r.are;
          fit = r.fit;
          stand = ap (λ (standing : List Standing). map request_of standing) all_asked ∙ r.requests;
          numbers = s.next ∙ ap (λ n. site.controller.desk.next + n)
              (sym (length-map s.asked request_of) ∙ (ap (λ (rs : List Request). length rs) r.requests ∙ length-map r.asked (λ (one : Asked). one.request)));
        };
      }

pub ticks_put_what_they_ask : TicksPutWhatTheyAsk
ticks_put_what_they_ask topology w node site found tick = by ((tick_goes (ticking w site) tick.may.peace tick.may.links).moves tick.up)
  where
    by : Moves (ticking w site) (ticks (ticking w site)) → TicksPutSome topology w node site
    by m = by_sending topology w node site found tick.may.peace.nothing_asked tick.written
        (m.sends (append_cancel_left w.notes.entries m.entries [] (sym m.grown ∙ (sym (entries_now topology w node site found) ∙ (tick.unlost ∙ sym (append-nil w.notes.entries))))))

pub ticks_ask : TicksAsk
ticks_ask topology w node site found tick = by (ticks_put_what_they_ask topology w node site found tick)
  where
    by : TicksPutSome topology w node site → AsksSome topology w node (Tick node)
    by some = record { asked = some.asked; asks = asks_what_it_puts topology w node site some.asked found tick.may some.put }

pub ticks_mirror : TicksMirror
ticks_mirror topology w node site found tick stays mirrored = by (ticks_ask topology w node site found tick)
  where
    by : AsksSome topology w node (Tick node) → IsMirroredIn (next topology w (Tick node)) node
    by some = record { way = mirrored.way ++ some.asked; by = controllers_mirror topology w node (Tick node) mirrored.way some.asked refl stays some.asks mirrored.by }
