-- Delete All of a port: what stands on its inputs is withdrawn, one by one, and then it is asked.

use Rattle.std.proofs.Common.{◌≡◌, ℕ, ◌+◌, ◌<◌, ◌||◌, ◌==◌, Bool, true, false, not, cond, List, [], ◌∷◌, length, get_or, filter, refl, sym, ap, ◌∙◌, arith, Option, Some, None}
use Rattle.std.specs.Option.{option_map_or}
use Rattle.std.specs.List.{list_any}
use Rattle.std.proofs.lemmas.Bool.{eqb-true, eq-eqb}
use Rattle.std.proofs.lemmas.List.Quantifiers.{all_pairs_push}
use Rattle.net_types.specs.declared.node.PortNo.{PortNo}
use Rattle.net_types.specs.declared.channel.End.{End}
use Rattle.gsmp_wire.specs.declared.request.Request.{Request}
use Rattle.gsmp_wire.specs.declared.request.Request.TheVariants.{DeleteAll}
use Rattle.crossbar_model.specs.Crossbar.{same_end}
use Rattle.port_model.specs.Desk.{Desk, Standing, asked, withdrawn}
use Rattle.port_model.specs.Requests.{request_input, is_delete_all, is_on, is_on_port, withdraws}
use Rattle.port_model.specs.Messages.{all_of}
use Rattle.branch_desk.specs.Requests.{AreApart, deleted_of}
use Rattle.branch_desk.proofs.Apart.{any_agree, apart_deletes, delete_is_key, has_key}
use Rattle.branch_desk.proofs.Ends.{end_from_same, same_itself}
use Rattle.branch_desk.proofs.Numbers.{none_left, not_true, or_left, or_right}
use Rattle.port_actions.specs.Outlook.{Clears, IsCleared, Outlook, Tells, deletes, stands}
use Rattle.port_actions.proofs.Standing.{any_left, left_many, none_gone, none_passes}
use Rattle.port_actions.proofs.Told.{any_push, apart_left, deletes_at, filter_agree, length_push, off, on}

abbrev pub at_port : PortNo → Standing → Bool
at_port port s = is_on_port port s.request

abbrev pub elsewhere : PortNo → Standing → Bool
elsewhere port s = not (is_on_port port s.request)

-- an input of the port
pub on_its_port : (port : PortNo) (input : End) (request : Request) → is_on input request ≡ true → input.port.0 ≡ port.0 → is_on_port port request ≡ true
on_its_port port input request here same = by (request_input request) refl here where
  by : (i : Option End) → request_input request ≡ i → option_map_or (same_end input) i false ≡ true → option_map_or (λ (x : End). x.port.0 == port.0) i false ≡ true
  by None e h = absurd (cc h)
  by (Some other) e h =
      let is : input ≡ other = end_from_same input other h in
      eq-eqb other.port.0 port.0 (ap (λ (x : End). x.port.0) (sym is) ∙ same)

pub kept_elsewhere : (port : PortNo) (input : End) (xs : List Standing) → input.port.0 ≡ port.0 → filter (elsewhere port) (filter (off input) xs) ≡ filter (elsewhere port) xs
kept_elsewhere port input [] same = refl
kept_elsewhere port input (x ∷ xs) same = by (is_on input x.request) (is_on_port port x.request) refl refl (kept_elsewhere port input xs same) where
  by : (a b : Bool) → is_on input x.request ≡ a → is_on_port port x.request ≡ b → filter (elsewhere port) (filter (off input) xs) ≡ filter (elsewhere port) xs → filter (elsewhere port) (cond (not a) (x ∷ filter (off input) xs) (filter (off input) xs)) ≡ cond (not b) (x ∷ filter (elsewhere port) xs) (filter (elsewhere port) xs)
  by true true ea eb rest = rest
  by true false ea eb rest = absurd (cc (sym eb ∙ on_its_port port input x.request ea same))
  by false true ea eb rest = rw eb rest
  by false false ea eb rest = rw (eb, rest) refl

pub withdrawn_cleared : (port : PortNo) (desk : Desk) (input : End) → input.port.0 ≡ port.0 → IsCleared port desk (withdrawn desk input)
withdrawn_cleared port desk input same = record {
  next = refl;
  rows = refl;
  others = kept_elsewhere port input desk.standing same;
}

pub cleared_itself : (port : PortNo) (desk : Desk) → IsCleared port desk desk
cleared_itself port desk = record { next = refl; rows = refl; others = refl }

pub cleared_trans : (port : PortNo) (a b c : Desk) → IsCleared port a b → IsCleared port b c → IsCleared port a c
cleared_trans port a b c first second = record {
  next = second.next ∙ first.next;
  rows = second.rows ∙ first.rows;
  others = second.others ∙ first.others;
}

pub clears_itself : (port : PortNo) (desk : Desk) (o : Outlook) → Clears port desk o o
clears_itself port desk o = record {
  many = omega arith;
  deleted = refl;
  falls = λ end h. h;
  tells = λ later told. (later, told, cleared_itself port later);
}

pub clears_trans : (port : PortNo) (desk : Desk) (a b c : Outlook) → Clears port desk a b → Clears port desk b c → Clears port desk a c
clears_trans port desk a b c first second = record {
  many = omega (arith, first.many, second.many);
  deleted = second.deleted ∙ first.deleted;
  falls = λ end h. second.falls end (first.falls end h);
  tells = λ later told.
      let one = first.tells later told in
      let two = second.tells one.0 one.1 in
      (two.0, two.1, cleared_trans port later one.0 two.0 one.2 two.2);
}

-- nothing is left on the port's inputs
pub none_at_port : (port : PortNo) (xs : List Standing) → ((end : End) → end.port.0 ≡ port.0 → list_any (on end) xs ≡ false) → list_any (at_port port) xs ≡ false
none_at_port port [] none = refl
none_at_port port (x ∷ xs) none = rw (first (request_input x.request) refl, none_at_port port xs (λ end same. or_right (is_on end x.request) _ (none end same))) refl where
  first : (i : Option End) → request_input x.request ≡ i → is_on_port port x.request ≡ false
  first None e = rw e refl
  first (Some input) e = not_true (is_on_port port x.request) (λ h.
      let there : (input.port.0 == port.0) ≡ true = sym (ap (λ (o : Option End). option_map_or (λ (y : End). y.port.0 == port.0) o false) e) ∙ h in
      let same : input.port.0 ≡ port.0 = eqb-true input.port.0 port.0 there in
      let free : is_on input x.request ≡ false = or_left (is_on input x.request) _ (none input same) in
      let here : is_on input x.request ≡ true = ap (λ (o : Option End). option_map_or (same_end input) o false) e ∙ same_itself input in
      cc (sym free ∙ here))

-- *Delete All* is asked
pub deleted_told : (o next : Outlook) (desk later left : Desk) (port : PortNo) → Tells o desk left → IsCleared port later left → list_any (at_port port) left.standing ≡ false → next.many ≡ o.many + cond (not (deletes o desk port)) 1 0 → ((end : End) → stands next desk end ≡ stands o desk end) → ((other : PortNo) → deletes next desk other ≡ ((other.0 == port.0) || deletes o desk other)) → Tells next desk (asked later (DeleteAll port))
deleted_told o next desk later left port told cleared none count inputs deleted = record {
  count =
      let fewer : length (filter (λ (s : Standing). not (deletes_at port s)) left.standing) + cond (list_any (deletes_at port) left.standing) 1 0 ≡ length left.standing = many_left in
      let there : deletes o desk port ≡ list_any (deletes_at port) left.standing = told.deletes port in
      rw (kept, length_push (filter (λ (s : Standing). not (deletes_at port s)) left.standing) one) (by (list_any (deletes_at port) left.standing) fewer (rw (← there) count));
  inputs = λ end. inputs end ∙ told.inputs end ∙ sym (rw (kept, any_push (on end) (filter (λ (s : Standing). not (deletes_at port s)) left.standing) one, any_left (deletes_at port) (on end) (λ s h. on_no_delete end port s.request h) left.standing) (or_false (list_any (on end) left.standing)));
  deletes = λ other. deleted other ∙ sym (rw (kept, any_push (deletes_at other) (filter (λ (s : Standing). not (deletes_at port s)) left.standing) one) (seen other (port.0 == other.0) refl));
  apart = rw kept (all_pairs_push (λ (a b : Standing). withdraws b.request a.request ≡ false) (filter (λ (s : Standing). not (deletes_at port s)) left.standing) one (apart_kept) (λ k d w. apart_last k d w));
}
  where
    one : Standing
    one = record { number = later.next; request = DeleteAll port }

    or_false : (b : Bool) → (b || false) ≡ b
    or_false true = refl
    or_false false = refl

    rest : filter (elsewhere port) left.standing ≡ left.standing
    rest = none_left (at_port port) left.standing none

    both : (xs : List Standing) → filter (λ s. not (withdraws (DeleteAll port) s.request)) xs ≡ filter (λ s. not (deletes_at port s)) (filter (elsewhere port) xs)
    both [] = refl
    both (x ∷ xs) = step (is_on_port port x.request) (both xs) where
      step : (b : Bool) → filter (λ s. not (withdraws (DeleteAll port) s.request)) xs ≡ filter (λ s. not (deletes_at port s)) (filter (elsewhere port) xs) → cond (not (b || is_delete_all port x.request)) (x ∷ filter (λ s. not (withdraws (DeleteAll port) s.request)) xs) (filter (λ s. not (withdraws (DeleteAll port) s.request)) xs) ≡ filter (λ s. not (deletes_at port s)) (cond (not b) (x ∷ filter (elsewhere port) xs) (filter (elsewhere port) xs))
      step true e = e
      step false e = rw e refl

    kept : filter (λ s. not (withdraws (DeleteAll port) s.request)) later.standing ≡ filter (λ s. not (deletes_at port s)) left.standing
    kept = both later.standing ∙ ap (filter (λ (s : Standing). not (deletes_at port s))) (sym cleared.others ∙ rest)

    many_left : length (filter (λ (s : Standing). not (deletes_at port s)) left.standing) + cond (list_any (deletes_at port) left.standing) 1 0 ≡ length left.standing
    many_left =
        let key : (s : Standing) → has_key deleted_of (all_of port) s.request ≡ deletes_at port s = λ s. sym (delete_is_key port s.request) in
        rw (← filter_agree (λ (s : Standing). not (has_key deleted_of (all_of port) s.request)) (λ (s : Standing). not (deletes_at port s)) (λ s. ap not (key s)) left.standing, ← any_agree (λ (s : Standing). has_key deleted_of (all_of port) s.request) (deletes_at port) key left.standing)
        (left_many deleted_of (all_of port) left.standing (apart_deletes left.standing told.apart))

    by : (b : Bool) → length (filter (λ (s : Standing). not (deletes_at port s)) left.standing) + cond b 1 0 ≡ length left.standing → next.many ≡ o.many + cond (not b) 1 0 → next.many ≡ length (filter (λ (s : Standing). not (deletes_at port s)) left.standing) + 1
    by true fewer more = omega (arith, fewer, more, told.count)
    by false fewer more = omega (arith, fewer, more, told.count)

    on_no_delete : (end : End) (p : PortNo) (request : Request) → is_on end request ≡ true → is_delete_all p request ≡ false
    on_no_delete end p request h = not_true (is_delete_all p request) (λ w. no_both request w h) where
      no_both : (r : Request) → is_delete_all p r ≡ true → is_on end r ≡ true → ⊥
      no_both (DeleteAll other) w g = cc g
      no_both r w g = cc w

    seen : (other : PortNo) (b : Bool) → (port.0 == other.0) ≡ b → (list_any (deletes_at other) (filter (λ (s : Standing). not (deletes_at port s)) left.standing) || b) ≡ ((other.0 == port.0) || deletes o desk other)
    seen other true e =
        let same : (other.0 == port.0) ≡ true = eq-eqb other.0 port.0 (sym (eqb-true port.0 other.0 e)) in
        rw same (or_true (list_any (deletes_at other) (filter (λ (s : Standing). not (deletes_at port s)) left.standing)))
      where
        or_true : (c : Bool) → (c || true) ≡ true
        or_true true = refl
        or_true false = refl
    seen other false e =
        let differ : (other.0 == port.0) ≡ false = not_true (other.0 == port.0) (λ h. cc (sym e ∙ eq-eqb port.0 other.0 (sym (eqb-true other.0 port.0 h)))) in
        rw (differ, any_left (deletes_at port) (deletes_at other) (λ s h. one_port s.request h) left.standing, ← told.deletes other) (or_false (deletes o desk other))
      where
        one_port : (request : Request) → is_delete_all other request ≡ true → is_delete_all port request ≡ false
        one_port (DeleteAll p) h = not_true (p.0 == port.0) (λ w.
            let a : p.0 ≡ port.0 = eqb-true p.0 port.0 w in
            let b : p.0 ≡ other.0 = eqb-true p.0 other.0 h in
            cc (sym e ∙ eq-eqb port.0 other.0 (sym a ∙ b)))
        one_port request h = absurd (cc h)

    apart_kept : AreApart (filter (λ (s : Standing). not (deletes_at port s)) left.standing)
    apart_kept = apart_left (λ (s : Standing). not (deletes_at port s)) left.standing told.apart

    gone : Standing → Bool
    gone s = withdraws (DeleteAll port) s.request

    none_gone_left : list_any gone (filter (λ (s : Standing). not (deletes_at port s)) left.standing) ≡ false
    none_gone_left =
        ap (list_any gone) (ap (filter (λ (s : Standing). not (deletes_at port s))) (sym rest) ∙ sym (both left.standing))
        ∙ none_gone gone gone (λ s h. h) left.standing

    apart_last : (k : ℕ) (d : Standing) → k < length (filter (λ (s : Standing). not (deletes_at port s)) left.standing) → withdraws (DeleteAll port) (get_or (filter (λ (s : Standing). not (deletes_at port s)) left.standing) k d).request ≡ false
    apart_last k d w = none_passes gone (filter (λ (s : Standing). not (deletes_at port s)) left.standing) k d none_gone_left w
