-- no Delete All is said in an event behind which none stands

use Rattle.std.proofs.Common.{◌≡◌, ℕ, Bool, true, false, not, ◌||◌, true≢false, List, [], ◌∷◌, ◌++◌, filter, Some, refl, sym, subst, if◌then◌else◌}
use Rattle.std.specs.List.{list_any}
use Rattle.live_model.specs.world_model.Words.{End, Party, PortRow, Standing, Request, is_on, withdraws, message_of, is_deleting}
use Rattle.live_model.specs.world_model.gsmp_wire.declared.request.Request.TheVariants as requests
use Rattle.live_model.specs.world_model.gsmp_wire.declared.message.BranchKind.TheVariants as kinds
use Rattle.live_model.specs.world_model.gsmp_wire.declared.message.Message.{Message}
use Rattle.live_model.specs.world_model.gsmp_wire.declared.message.Message.TheVariants as messages
use Rattle.live_model.specs.world_model.switch_model.declared.request.Asked.{Asked}
use Rattle.law_port_facts.specs.ordered_lists.Ordered.{Every}
use Rattle.law_live_control.specs.Calm.{ack}
use Rattle.law_live_control.proofs.Walks.{IsCalmly, Tells}
use Rattle.law_live_control.proofs.Controllers.{hears_so, frame_so, tick_so}
use Rattle.law_live_control.proofs.Reading.{found, read_as}
use Rattle.law_live_ways.specs.Deleting.{DeletesNone, NoneIsRead, ControllersDeleteNone}

abbrev pub deletes : Standing → Bool
deletes s = is_deleting s.request

abbrev pub IsEmptied : List Standing → Type 0
IsEmptied standing = list_any deletes standing ≡ false

-- *One of two tests* passes, or neither
neither : (x y : Bool) → (x || y) ≡ false → (x ≡ false) × (y ≡ false)
neither true y e = absurd (true≢false e)
neither false y e = (refl, e)

pub none_of : (x y : Bool) → x ≡ false → y ≡ false → (x || y) ≡ false
none_of true y e f = absurd (true≢false e)
none_of false y e f = f

pub not_so : (b : Bool) → not b ≡ true → b ≡ false
not_so true e = absurd (true≢false (sym e))
not_so false e = refl

any_left : (xs ys : List Standing) → list_any deletes (xs ++ ys) ≡ false → (list_any deletes xs ≡ false) × (list_any deletes ys ≡ false)
any_left [] ys e = (refl, e)
any_left (x ∷ xs) ys e =
    let both = neither (deletes x) (list_any deletes (xs ++ ys)) e in
    let rest = any_left xs ys both.1 in
    (none_of (deletes x) (list_any deletes xs) both.0 rest.0, rest.1)

-- *What is taken from the desk* was no Delete All, so none stood before
none_stood : (drops : Standing → Bool) → ((s : Standing) → drops s ≡ true → deletes s ≡ false) → (standing : List Standing)
    → list_any deletes (filter (λ (s : Standing). not (drops s)) standing) ≡ false → list_any deletes standing ≡ false
none_stood drops spares [] e = refl
none_stood drops spares (x ∷ standing) e = by (drops x) refl e (none_stood drops spares standing)
  where
    left : List Standing
    left = filter (λ (s : Standing). not (drops s)) standing

    by : (b : Bool) → drops x ≡ b → list_any deletes (if not b then x ∷ left else left) ≡ false → (list_any deletes left ≡ false → list_any deletes standing ≡ false)
        → (deletes x || list_any deletes standing) ≡ false
    by true is h later = none_of (deletes x) (list_any deletes standing) (spares x is) (later h)
    by false is h later =
        let both = neither (deletes x) (list_any deletes left) h in
        none_of (deletes x) (list_any deletes standing) both.0 (later both.1)

-- a request on an input is none
spared : (input : End) (request : Request) → is_on input request ≡ true → is_deleting request ≡ false
spared input (requests.AddBranch i o) e = refl
spared input (requests.MoveBranch i from to) e = refl
spared input (requests.DeleteTree i) e = refl
spared input (requests.VerifyTree i) e = refl
spared input (requests.DeleteAll port) e = absurd (true≢false (sym e))
spared input (requests.PortManagement port function) e = refl
spared input requests.AllPorts e = refl

-- and one that is no Delete All takes the place of those on its input alone
displaced : (request other : Request) → is_deleting request ≡ false → withdraws request other ≡ true → is_deleting other ≡ false
displaced (requests.AddBranch i o) other none e = spared i other e
displaced (requests.MoveBranch i from to) other none e = spared i other e
displaced (requests.DeleteTree i) other none e = spared i other e
displaced (requests.VerifyTree i) other none e = spared i other e
displaced (requests.DeleteAll port) other none e = absurd (true≢false none)
displaced (requests.PortManagement port function) other none e = absurd (true≢false (sym e))
displaced requests.AllPorts other none e = absurd (true≢false (sym e))

-- *The message of a request* that is none
one_asked : (x y : Asked) → Some x ≡ Some y → is_deleting x.request ≡ false → is_deleting y.request ≡ false
one_asked x y e none = (let same : x ≡ y = cc in subst (λ (a : Asked). is_deleting a.request ≡ false) same none)

says_none : (rows : List PortRow) (number : ℕ) (request : Request) → is_deleting request ≡ false → DeletesNone (message_of rows number request)
says_none rows number (requests.AddBranch i o) none said e = one_asked _ said e refl
says_none rows number (requests.MoveBranch i from to) none said e = one_asked _ said e refl
says_none rows number (requests.DeleteTree i) none said e = one_asked _ said e refl
says_none rows number (requests.VerifyTree i) none said e = one_asked _ said e refl
says_none rows number (requests.DeleteAll port) none said e = absurd (true≢false none)
says_none rows number (requests.PortManagement port function) none said e = one_asked _ said e refl
says_none rows number requests.AllPorts none said e = one_asked _ said e refl

each_none : (standing : List Standing) → IsEmptied standing → Every (IsCalmly DeletesNone) standing
each_none [] e = tt
each_none (s ∷ standing) e =
    let both = neither (deletes s) (list_any deletes standing) e in
    (λ rows. says_none rows s.number s.request both.0, each_none standing both.1)

pub tells_none : Tells DeletesNone IsEmptied
tells_none = record {
  calm = each_none;
  asked = λ desk request e. (
      let both = any_left (filter (λ (s : Standing). not (withdraws request s.request)) desk.standing) (record { number = desk.next; request = request } ∷ []) e in
      let none : is_deleting request ≡ false = (neither (is_deleting request) false both.1).0 in
      none_stood (λ (s : Standing). withdraws request s.request) (λ s is. displaced request s.request none is) desk.standing both.0);
  withdrawn = λ desk input e. none_stood (λ (s : Standing). is_on input s.request) (λ s is. spared input s.request is) desk.standing e;
}

-- a greeting asks for nothing
pub greets_none : (own far : Party) → DeletesNone (ack own far)
greets_none own far said e = absurd (cc e)

pub controllers_delete_none : ControllersDeleteNone
controllers_delete_none = record {
  hear = λ a switch message met links calm none. (hears_so DeletesNone IsEmptied tells_none a switch met links message calm (none.unspent, not_so _ none.none)).says;
  frames = λ a switch taker mark payload met links marked calm none. (frame_so DeletesNone IsEmptied tells_none a switch met links taker mark payload marked calm (none.unspent, not_so _ none.none)).says;
  ticks = λ a switch met links low none. (tick_so DeletesNone IsEmptied tells_none a switch met links low (greets_none a.controller.adjacency.own switch.own) (none.unspent, not_so _ none.none)).says;
}

-- *What is read* has the kind of what was written
again : (message : Message) → DeletesNone message → DeletesNone (found message)
again (messages.Adjacency greeting) none said e = absurd (cc e)
again (messages.Branch kinds.Add result code number session input_port input output_port output branches priority) none said e = one_asked _ said e refl
again (messages.Branch kinds.Delete result code number session input_port input output_port output branches priority) none said e = one_asked _ said e refl
again (messages.Branch kinds.Verify result code number session input_port input output_port output branches priority) none said e = one_asked _ said e refl
again (messages.Branch kinds.DeleteAll result code number session input_port input output_port output branches priority) none said e = absurd (true≢false (none _ refl))
again (messages.Move result code number session input_port input output_port output target_port target branches priority) none said e = one_asked _ said e refl
again (messages.Port result code number port session function) none said e = one_asked _ said e refl
again (messages.AllPorts result code number rows) none said e = one_asked _ said e refl

pub none_is_read : NoneIsRead
none_is_read message read none is = subst DeletesNone (sym (read_as message read is)) (again message none)
