-- a document, as far as the word of `toml` lets: from the table that it is

use Rattle.std.proofs.Common.{◌≡◌, ℕ, List, [], ◌∷◌, ◌++◌, refl}
use Rattle.std.specs.Fmt.{digits}
use Rattle.std.specs.Prelude.{codes, Some, None, Ok, Err}
use Rattle.std.specs.Option.{ok_or}
use Rattle.toml.specs.Data.{string, array, Items, no_items, item, Members, no_members, member}
use Rattle.script_model.specs.Documents.{Lines, lines_in, script_in}
use Rattle.rule_model.specs.Lines.{rules_of}
use Rattle.script_model.specs.Judgement.{document_judged}
use Rattle.script_model.specs.Reports.{report}
use Rattle.script_model.specs.declared.refusal.DocumentRefusal.TheVariants.{Toml}
use Rattle.script_model.specs.declared.refusal.LineRefusal.TheVariants.{BadByte, UnknownName}
use Rattle.script_model.specs.declared.refusal.Refused.TheVariants.{Line}

-- a packet from 10.0.1.1 to 10.0.3.1
abbrev pub packet : List ℕ
packet = codes "4500001c0001000004119ecf0a0001010a0003011389138a00080000"

-- one node, which is the destination of everything in 10/8, and a packet that it is given
abbrev topology : Items
topology = item (string (codes "node a 10.0.1.1")) (item (string (codes "route a 10.0.0.0/8 local")) no_items)

abbrev events : Items
events = item (string (codes "send a " ++ packet)) no_items

-- its keys in the order in which a table has them, and its lines in theirs
abbrev document : Members
document = member (codes "events") (array events) (member (codes "topology") (array topology) no_members)

abbrev unruled : List (List ℕ) → Lines
unruled texts = record { rules = None; texts = texts }

lines_are : lines_in document
    ≡ Some (unruled (codes "node a 10.0.1.1" ∷ codes "route a 10.0.0.0/8 local" ∷ (codes "send a " ++ packet) ∷ []))
lines_are = refl

report_is : report (script_in (ok_or (lines_in document) Toml))
    ≡ codes "deliver a 1 " ++ (packet ++ codes "\nend events 1 sent 1 delivered 1 dropped 0 refused 0 losses 0 redirects 0 switched 0 chance 0\n")
unfolding digits rules_of
report_is = refl

-- a missing key is an empty array; another key, or something else than strings, is no document
without_events : lines_in (member (codes "topology") (array topology) no_members)
    ≡ Some (unruled (codes "node a 10.0.1.1" ∷ codes "route a 10.0.0.0/8 local" ∷ []))
without_events = refl

empty : report (script_in (ok_or (lines_in no_members) Toml))
    ≡ codes "end events 0 sent 0 delivered 0 dropped 0 refused 0 losses 0 redirects 0 switched 0 chance 0\n"
unfolding digits rules_of
empty = refl

another_key : lines_in (member (codes "event") (array events) no_members) ≡ None
another_key = refl

not_a_string : lines_in (member (codes "events") (string packet) no_members) ≡ None
not_a_string = refl

refused_whole : report (script_in (Err Toml)) ≡ codes "refused 0 Toml\n"
unfolding digits
refused_whole = refl

-- a string has no end: an LF in it is an octet like others
with_feed : (script_in (Ok (unruled (codes "# a" ∷ codes "node a 10.0.1.1\n" ∷ [])))).refused ≡ Some (Line 2 BadByte)
unfolding rules_of
with_feed = refl

-- *Rules*: they come first, and lines are numbered behind them
abbrev rules : Items
rules =
    item (string (codes "# the order decides"))
    (item (string (codes "offer any 0.0.0.0/0 0.0.0.0/0 any any after 4 keep 40"))
    (item (string (codes "deny udp 10.0.1.0/24 10.0.0.0/8 any any")) no_items))

abbrev ruled : Members
ruled = member (codes "rules") (array rules) (member (codes "topology") (array events) no_members)

-- an event line behind three lines of rules, before its node is there
refused_behind_rules : (script_in (ok_or (lines_in ruled) Toml)).refused ≡ Some (Line 4 UnknownName)
unfolding rules_of
refused_behind_rules = refl

judgement_is : document_judged (ok_or (lines_in ruled) Toml) ≡ codes "rule 2\nrule 3 covered 2\nend rules 2 covered 1\n"
unfolding rules_of digits
judgement_is = refl

-- a rule that is refused ends both
abbrev misruled : Members
misruled =
    member (codes "rules") (array (item (string (codes "deny two 0.0.0.0/0 0.0.0.0/0 0-65535 any")) no_items)) no_members

refused_rule : report (script_in (ok_or (lines_in misruled) Toml)) ≡ codes "refused 1 BadPorts\n"
unfolding rules_of digits
refused_rule = refl

its_judgement : document_judged (ok_or (lines_in misruled) Toml) ≡ codes "refused 1 BadPorts\n"
unfolding rules_of digits
its_judgement = refl
