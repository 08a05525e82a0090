-- How what is told of a desk changes with a request that is asked, withdrawn or taken back.

use Rattle.std.proofs.Common.{◌≡◌, ℕ, ◌+◌, ◌-◌, ◌||◌, ◌==◌, Bool, true, false, not, cond, List, [], ◌∷◌, ◌++◌, length, get_or, filter, find, refl, sym, ap, ◌∙◌, arith, Option, Some, None, is_some}
use Rattle.std.specs.Option.{option_map_or}
use Rattle.std.specs.List.{list_any}
use Rattle.std.proofs.lemmas.List.Kept.{AllPairs-filter}
use Rattle.std.proofs.lemmas.List.Quantifiers.{all_pairs_push}
use Rattle.std.specs.Map.{lookup}
use Rattle.indexmap.specs.IndexMap.{insert_entry}
use Rattle.net_types.specs.declared.node.PortNo.{PortNo}
use Rattle.net_types.specs.declared.channel.End.{End}
use Rattle.gsmp_wire.specs.declared.request.Request.{Request}
use Rattle.gsmp_wire.specs.declared.request.Request.TheVariants.{AddBranch, MoveBranch, DeleteTree, VerifyTree, DeleteAll, PortManagement, AllPorts}
use Rattle.crossbar_model.specs.Crossbar.{same_end}
use Rattle.port_model.specs.Desk.{Desk, Standing, all_on, asked, is_led_home, taken_back, withdrawn}
use Rattle.port_model.specs.Requests.{request_input, is_delete_all, is_on, leads_home, withdraws}
use Rattle.branch_desk.specs.Requests.{AreApart}
use Rattle.branch_desk.proofs.Apart.{apart_inputs, found_any, led_home_is}
use Rattle.branch_desk.proofs.Ends.{end_from_same, same_itself}
use Rattle.branch_desk.proofs.Numbers.{not_true}
use Rattle.port_actions.specs.Outlook.{IsTold, Outlook, Tells, deletes, stands}
use Rattle.port_actions.proofs.Entries.{inserted_stands}
use Rattle.port_actions.proofs.Standing.{any_left, left_many, none_gone, none_passes}

-- *A request on an input* withdraws what is on that input

pub withdraws_on : (request : Request) (input : End) (s : Standing) → request_input request ≡ Some input → withdraws request s.request ≡ is_on input s.request
withdraws_on (AddBranch other output) input s e = ap (λ (i : Option End). option_map_or (λ x. is_on x s.request) i false) e
withdraws_on (MoveBranch other from to) input s e = ap (λ (i : Option End). option_map_or (λ x. is_on x s.request) i false) e
withdraws_on (DeleteTree other) input s e = ap (λ (i : Option End). option_map_or (λ x. is_on x s.request) i false) e
withdraws_on (VerifyTree other) input s e = ap (λ (i : Option End). option_map_or (λ x. is_on x s.request) i false) e
withdraws_on (DeleteAll port) input s e = absurd (cc e)
withdraws_on (PortManagement port function) input s e = absurd (cc e)
withdraws_on AllPorts input s e = absurd (cc e)

pub not_delete_all : (request : Request) (input : End) (port : PortNo) → request_input request ≡ Some input → is_delete_all port request ≡ false
not_delete_all (AddBranch other output) input port e = refl
not_delete_all (MoveBranch other from to) input port e = refl
not_delete_all (DeleteTree other) input port e = refl
not_delete_all (VerifyTree other) input port e = refl
not_delete_all (DeleteAll other) input port e = absurd (cc e)
not_delete_all (PortManagement other function) input port e = refl
not_delete_all AllPorts input port e = refl

pub filter_agree : {X : Type 0} (p q : X → Bool) → ((x : X) → p x ≡ q x) → (xs : List X) → filter p xs ≡ filter q xs
filter_agree p q same [] = refl
filter_agree p q same (x ∷ xs) = rw (same x, filter_agree p q same xs) refl

abbrev pub on : End → Standing → Bool
on input s = is_on input s.request

abbrev pub off : End → Standing → Bool
off input s = not (is_on input s.request)

abbrev pub deletes_at : PortNo → Standing → Bool
deletes_at port s = is_delete_all port s.request

pub kept_by : (request : Request) (input : End) (xs : List Standing) → request_input request ≡ Some input → filter (λ s. not (withdraws request s.request)) xs ≡ filter (off input) xs
kept_by request input xs e = filter_agree (λ (s : Standing). not (withdraws request s.request)) (off input) (λ s. ap not (withdraws_on request input s e)) xs

-- *One input and another*

on_other : (one other : End) (request : Request) → same_end one other ≡ false → is_on one request ≡ true → is_on other request ≡ false
on_other one other request differ here = by (request_input request) here where
  by : (i : Option End) → option_map_or (same_end one) i false ≡ true → option_map_or (same_end other) i false ≡ false
  by None h = refl
  by (Some input) h = not_true (same_end other input) (λ w.
      let a : one ≡ input = end_from_same one input h in
      let b : other ≡ input = end_from_same other input w in
      let same : one ≡ other = a ∙ sym b in
      let there : same_end one other ≡ true = rw same (same_itself other) in
      cc (sym differ ∙ there))

no_input : (port : PortNo) (input : End) (request : Request) → is_delete_all port request ≡ true → is_on input request ≡ false
no_input port input (DeleteAll other) h = refl
no_input port input (AddBranch other output) h = absurd (cc h)
no_input port input (MoveBranch other from to) h = absurd (cc h)
no_input port input (DeleteTree other) h = absurd (cc h)
no_input port input (VerifyTree other) h = absurd (cc h)
no_input port input (PortManagement other function) h = absurd (cc h)
no_input port input AllPorts h = absurd (cc h)

pub on_left : (end input : End) (xs : List Standing) → list_any (on end) (filter (off input) xs) ≡ cond (same_end end input) false (list_any (on end) xs)
on_left end input xs = by (same_end end input) refl where
  by : (b : Bool) → same_end end input ≡ b → list_any (on end) (filter (off input) xs) ≡ cond b false (list_any (on end) xs)
  by true e = none_gone (on input) (on end) (λ s h. let is : end ≡ input = end_from_same end input e in rw (← is) h) xs
  by false e = any_left (on input) (on end) (λ s h. on_other end input s.request e h) xs

pub deletes_left : (port : PortNo) (input : End) (xs : List Standing) → list_any (deletes_at port) (filter (off input) xs) ≡ list_any (deletes_at port) xs
deletes_left port input xs = any_left (on input) (deletes_at port) (λ s h. no_input port input s.request h) xs

pub apart_left : (test : Standing → Bool) (xs : List Standing) → AreApart xs → AreApart (filter test xs)
apart_left test xs apart = AllPairs-filter (λ (a b : Standing). withdraws b.request a.request ≡ false) test xs apart

or_false : (b : Bool) → (b || false) ≡ b
or_false true = refl
or_false false = refl

pub any_push : {X : Type 0} (p : X → Bool) (xs : List X) (x : X) → list_any p (xs ++ x ∷ []) ≡ (list_any p xs || p x)
any_push p [] x = or_false (p x)
any_push p (y ∷ xs) x = rw (any_push p xs x) (by (p y) (list_any p xs) (p x)) where
  by : (a b c : Bool) → (a || (b || c)) ≡ ((a || b) || c)
  by true b c = refl
  by false b c = refl

pub length_push : {X : Type 0} (xs : List X) (x : X) → length (xs ++ x ∷ []) ≡ length xs + 1
length_push [] x = refl
length_push (y ∷ xs) x = let rest : length (xs ++ x ∷ []) ≡ length xs + 1 = length_push xs x in omega (arith, rest)

-- *Withdrawn*

pub withdrawn_told : (many later : ℕ) (inputs others : End → Bool) (deleted : PortNo → Bool) (desk : Desk) (input : End) → IsTold many inputs deleted desk → later ≡ many - cond (inputs input) 1 0 → ((end : End) → others end ≡ cond (same_end end input) false (inputs end)) → IsTold later others deleted (withdrawn desk input)
withdrawn_told many later inputs others deleted desk input told count is = record {
  count =
      let left : length (filter (off input) desk.standing) + cond (list_any (on input) desk.standing) 1 0 ≡ length desk.standing = left_many request_input input desk.standing (apart_inputs desk.standing told.apart) in
      let there : inputs input ≡ list_any (on input) desk.standing = told.inputs input in
      let fewer : later ≡ many - cond (list_any (on input) desk.standing) 1 0 = rw (← there) count in
      omega (arith, fewer, told.count, left);
  inputs = λ end. is end ∙ ap (λ b. cond (same_end end input) false b) (told.inputs end) ∙ sym (on_left end input desk.standing);
  deletes = λ port. told.deletes port ∙ sym (deletes_left port input desk.standing);
  apart = apart_left (off input) desk.standing told.apart;
}

-- *Asked*

pub asked_told : (many later : ℕ) (inputs others : End → Bool) (deleted : PortNo → Bool) (desk : Desk) (request : Request) (input : End) → request_input request ≡ Some input → IsTold many inputs deleted desk → later ≡ many + cond (not (inputs input)) 1 0 → ((end : End) → others end ≡ cond (same_end end input) true (inputs end)) → IsTold later others deleted (asked desk request)
asked_told many later inputs others deleted desk request input of told count is = record {
  count =
      let left : length (filter (off input) desk.standing) + cond (list_any (on input) desk.standing) 1 0 ≡ length desk.standing = left_many request_input input desk.standing (apart_inputs desk.standing told.apart) in
      let there : inputs input ≡ list_any (on input) desk.standing = told.inputs input in
      let more : later ≡ many + cond (not (list_any (on input) desk.standing)) 1 0 = rw (← there) count in
      rw (kept, length_push (filter (off input) desk.standing) one) (by (list_any (on input) desk.standing) left more);
  inputs = λ end. is end ∙ sym (rw (kept, any_push (on end) (filter (off input) desk.standing) one, on_left end input desk.standing, of) (seen end (same_end end input) refl));
  deletes = λ port. told.deletes port ∙ sym (rw (kept, any_push (deletes_at port) (filter (off input) desk.standing) one, deletes_left port input desk.standing, not_delete_all request input port of) (or_false (list_any (deletes_at port) desk.standing)));
  apart = rw kept (all_pairs_push (λ (a b : Standing). withdraws b.request a.request ≡ false) (filter (off input) desk.standing) one (apart_left (off input) desk.standing told.apart) (λ k d w.
      withdraws_on request input (get_or (filter (off input) desk.standing) k d) of
      ∙ none_passes (on input) (filter (off input) desk.standing) k d (none_gone (on input) (on input) (λ s h. h) desk.standing) w));
}
  where
    one : Standing
    one = record { number = desk.next; request = request }

    kept : filter (λ s. not (withdraws request s.request)) desk.standing ≡ filter (off input) desk.standing
    kept = kept_by request input desk.standing of

    by : (b : Bool) → length (filter (off input) desk.standing) + cond b 1 0 ≡ length desk.standing → later ≡ many + cond (not b) 1 0 → later ≡ length (filter (off input) desk.standing) + 1
    by true left more = omega (arith, left, more, told.count)
    by false left more = omega (arith, left, more, told.count)

    seen : (end : End) (b : Bool) → same_end end input ≡ b → (cond b false (list_any (on end) desk.standing) || option_map_or (same_end end) (Some input) false) ≡ cond b true (inputs end)
    seen end true e = e
    seen end false e = rw e (or_false (list_any (on end) desk.standing) ∙ sym (told.inputs end))

-- *A request on no input*, and not Delete All, is one more
pub one_more_told : (many : ℕ) (inputs : End → Bool) (deleted : PortNo → Bool) (desk : Desk) (request : Request) → request_input request ≡ None → ((port : PortNo) → is_delete_all port request ≡ false) → ((s : Standing) → withdraws request s.request ≡ false) → IsTold many inputs deleted desk → IsTold (many + 1) inputs deleted (asked desk request)
one_more_told many inputs deleted desk request of none free told = record {
  count = rw (kept, length_push desk.standing one) (ap (λ n. n + 1) told.count);
  inputs = λ end. told.inputs end ∙ sym (rw (kept, any_push (on end) desk.standing one, of) (or_false (list_any (on end) desk.standing)));
  deletes = λ port. told.deletes port ∙ sym (rw (kept, any_push (deletes_at port) desk.standing one, none port) (or_false (list_any (deletes_at port) desk.standing)));
  apart = rw kept (all_pairs_push (λ (a b : Standing). withdraws b.request a.request ≡ false) desk.standing one told.apart (λ k d w. free (get_or desk.standing k d)));
}
  where
    one : Standing
    one = record { number = desk.next; request = request }

    all : (xs : List Standing) → filter (λ s. not (withdraws request s.request)) xs ≡ xs
    all [] = refl
    all (x ∷ xs) = rw (free x, all xs) refl

    kept : filter (λ s. not (withdraws request s.request)) desk.standing ≡ desk.standing
    kept = all desk.standing

-- *Taken back*: where something stands on the input or Delete All of its port, as many requests stand as before
pub led_back : (many : ℕ) (inputs : End → Bool) (deleted : PortNo → Bool) (desk : Desk) (input output home : End) → (inputs input || deleted input.port) ≡ true → IsTold many inputs deleted desk → IsTold many inputs deleted (taken_back desk input output home)
led_back many inputs deleted desk input output home there told = by (is_led_home desk input home) refl where
  delete_leads : (xs : List Standing) → list_any (deletes_at input.port) xs ≡ true → AreApart xs → list_any (λ s. leads_home input home s.request) xs ≡ true
  delete_leads xs h apart = led_home_is input home xs apart ∙ rw h refl

  stays : inputs input ≡ true → (end : End) → inputs end ≡ cond (same_end end input) true (inputs end)
  stays here end = at (same_end end input) refl where
    at : (b : Bool) → same_end end input ≡ b → inputs end ≡ cond b true (inputs end)
    at true e = let is : end ≡ input = end_from_same end input e in rw is here
    at false e = refl

  on_it : is_led_home desk input home ≡ false → (b : Bool) → inputs input ≡ b → (b || deleted input.port) ≡ true → inputs input ≡ true
  on_it free true e h = e
  on_it free false e h = absurd (cc (sym free ∙ delete_leads desk.standing (sym (told.deletes input.port) ∙ h) told.apart))

  by : (b : Bool) → is_led_home desk input home ≡ b → IsTold many inputs deleted (cond b desk (asked desk (MoveBranch input output home)))
  by true e = told
  by false e =
      let here : inputs input ≡ true = on_it e (inputs input) refl there in
      asked_told many many inputs inputs deleted desk (MoveBranch input output home) input refl told (rw here (omega arith)) (stays here)

pub not_led : (many : ℕ) (inputs : End → Bool) (deleted : PortNo → Bool) (desk : Desk) (input home : End) → inputs input ≡ false → deleted input.port ≡ false → IsTold many inputs deleted desk → is_led_home desk input home ≡ false
not_led many inputs deleted desk input home free kept told =
    led_home_is input home desk.standing told.apart
    ∙ rw (sym (told.deletes input.port) ∙ kept) (none (find (on input) desk.standing) (found_any (on input) desk.standing ∙ (sym (told.inputs input) ∙ free)))
  where
    none : (o : Option Standing) → is_some o ≡ false → option_map_or (λ (s : Standing). leads_home input home s.request) o false ≡ false
    none None h = refl
    none (Some s) h = absurd (cc h)

-- *The outlook itself*

pub ask_tells : (eq : End → End → Bool) → ((a b : End) → eq a b ≡ same_end a b) → (o next : Outlook) (desk later : Desk) (request : Request) (input : End) → request_input request ≡ Some input → next.many ≡ o.many + cond (not (stands o desk input)) 1 0 → next.inputs ≡ insert_entry eq o.inputs input true → next.deleted ≡ o.deleted → Tells o desk later → Tells next desk (asked later request)
ask_tells eq is o next desk later request input of count inputs deleted told =
    let all : IsTold next.many (stands next desk) (deletes o desk) (asked later request) =
    asked_told o.many next.many (stands o desk) (stands next desk) (deletes o desk) later request input of told count (inserted_stands eq is o next desk input true inputs) in
    record {
      count = all.count;
      inputs = all.inputs;
      deletes = λ port. ap (λ (ds : List (PortNo × Bool)). is_some (lookup (λ (other : PortNo). port.0 == other.0) ds) || all_on desk port) deleted ∙ all.deletes port;
      apart = all.apart;
    }

pub withdraw_tells : (eq : End → End → Bool) → ((a b : End) → eq a b ≡ same_end a b) → (o next : Outlook) (desk later : Desk) (input : End) → next.many ≡ o.many - cond (stands o desk input) 1 0 → next.inputs ≡ insert_entry eq o.inputs input false → next.deleted ≡ o.deleted → Tells o desk later → Tells next desk (withdrawn later input)
withdraw_tells eq is o next desk later input count inputs deleted told =
    let all : IsTold next.many (stands next desk) (deletes o desk) (withdrawn later input) =
    withdrawn_told o.many next.many (stands o desk) (stands next desk) (deletes o desk) later input told count (inserted_stands eq is o next desk input false inputs) in
    record {
      count = all.count;
      inputs = all.inputs;
      deletes = λ port. ap (λ (ds : List (PortNo × Bool)). is_some (lookup (λ (other : PortNo). port.0 == other.0) ds) || all_on desk port) deleted ∙ all.deletes port;
      apart = all.apart;
    }
