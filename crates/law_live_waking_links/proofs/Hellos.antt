-- greetings in frames that stay, one behind another, and apart

use Rattle.std.proofs.Common.{◌≡◌, List, [], ◌∷◌, ◌++◌, refl, ap}
use Rattle.world_model.specs.Words.{Addr, Peer, Said, Mark, Frame}
use Rattle.law_live_waking.specs.law_running_worlds.law_shown_cells.Seen.{Extends}
use Rattle.law_live_waking_links.specs.Hellos.{Greet, none, greets, passed}

module _ (address : Addr) where
  -- *They stay* while what was made does
  pub hellos_stay : (old new : List Frame) → Extends old new → (marks : List Mark) (messages : List (Said Peer)) → Greet address old marks messages → Greet address new marks messages
  hellos_stay old new stays [] messages none = none
  hellos_stay old new stays (mark ∷ marks) (message ∷ messages) (greets own said is later) =
      greets own said (record { next = is.next; sender = is.sender; says = stays.kept mark _ is.says }) (hellos_stay old new stays marks messages later)
  hellos_stay old new stays (mark ∷ marks) messages (passed own is later) =
      passed own (record { payload = is.payload; made = stays.kept mark is.payload is.made; unread = is.unread }) (hellos_stay old new stays marks messages later)

  module _ (frames : List Frame) where
    -- *One behind another*
    pub hellos_join : (xs ys : List Mark) (ms ns : List (Said Peer)) → Greet address frames xs ms → Greet address frames ys ns → Greet address frames (xs ++ ys) (ms ++ ns)
    hellos_join [] ys ms ns none more = more
    hellos_join (mark ∷ xs) ys (message ∷ ms) ns (greets own said is later) more = greets own said is (hellos_join xs ys ms ns later more)
    hellos_join (mark ∷ xs) ys ms ns (passed own is later) more = passed own is (hellos_join xs ys ms ns later more)

    -- *Apart*
    pub record AreApart (xs ys : List Mark) (messages : List (Said Peer)) : Type 0 where
      pub first : List (Said Peer)
      pub later : List (Said Peer)
      pub are : messages ≡ first ++ later
      pub greet : Greet address frames xs first
      pub greet_later : Greet address frames ys later

    pub hellos_apart : (xs ys : List Mark) (messages : List (Said Peer)) → Greet address frames (xs ++ ys) messages → AreApart xs ys messages
    hellos_apart [] ys messages said = record { first = []; later = messages; are = refl; greet = none; greet_later = said }
    hellos_apart (mark ∷ xs) ys (message ∷ messages) (greets own said is rest) =
        let r : AreApart xs ys messages = hellos_apart xs ys messages rest in
        record { first = message ∷ r.first; later = r.later; are = ap (λ (ms : List (Said Peer)). message ∷ ms) r.are; greet = greets own said is r.greet; greet_later = r.greet_later }
    hellos_apart (mark ∷ xs) ys messages (passed own is rest) =
        let r : AreApart xs ys messages = hellos_apart xs ys messages rest in
        record { first = r.first; later = r.later; are = r.are; greet = passed own is r.greet; greet_later = r.greet_later }

    -- *Nobody greets* where nothing waits
    pub no_hellos : (marks : List Mark) (messages : List (Said Peer)) → Greet address frames marks messages → marks ≡ [] → messages ≡ []
    no_hellos [] messages none e = refl
    no_hellos (mark ∷ marks) (message ∷ messages) (greets own said is later) e = absurd (cc e)
    no_hellos (mark ∷ marks) messages (passed own is later) e = absurd (cc e)
