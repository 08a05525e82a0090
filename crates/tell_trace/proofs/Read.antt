-- each line of a trace is read back

use Rattle.std.proofs.Common.{◌≡◌, ℕ, append_assoc, ◌+◌, ◌-◌, ◌^◌, ◌<◌, ◌≤◌, ◌==◌, ◌&&◌, ◌||◌, Bool, true, false, not, cond, List, [], ◌∷◌, ◌++◌, length, codes, nat_lt, nat_le, decimal, Option, None, Some, Result, Ok, refl, sym, ◌∙◌, ap, arith, length-append}
use Rattle.std.specs.Char.{is_ascii_digit}
use Rattle.std.specs.List.{list_all}
use Rattle.std.specs.Option.{option_and_then}
use Rattle.std.proofs.lemmas.Bool.Decides.{nat_tests}
use Rattle.std.proofs.lemmas.Fmt.{length-decimal-le}
use Rattle.std.proofs.lemmas.List.Folds.{list_all-append}
use Rattle.net_types.specs.declared.channel.Channel.{Channel}
use Rattle.net_types.specs.declared.number.Mark.{Mark}
use Rattle.net_types.specs.declared.node.PortNo.{PortNo}
use Rattle.net_types.specs.Label.{is_label_channel}
use Rattle.ipv4_packet.specs.declared.flow.FlowId.{FlowId}
use Rattle.ipv4_packet.specs.declared.flow.FlowId.TheVariants.{One, Two}
use Rattle.ipv4_packet.specs.Flow.{IsFlow}
use Rattle.ipv4_packet.specs.Identifier.{identifier, FitsFields}
use Rattle.ipv4_packet.proofs.IdentifierLemmas.{flow_at-identifier, first_fault-identifier}
use Rattle.lab_text.specs.declared.line.LineFault.{LineFault}
use Rattle.lab_text.specs.declared.line.LineFault.TheVariants as fault
use Rattle.lab_text.specs.Forms.{is_name, is_name_octet}
use Rattle.lab_text.specs.Line.{input_limit, line_limit, holds_octet, text_fault, line_fault}
use Rattle.lab_text.specs.Text.{hex_digits, line_of}
use Rattle.lab_text.specs.Words.{is_script_octet, line_text, words, is_blank_text}
use Rattle.world_model.specs.network_model.declared.link.LinkEnd.{LinkEnd}
use Rattle.world_model.specs.Conditions.{AreOctets, IsPort}
use Rattle.world_model.specs.Topology.{Topology}
use Rattle.script_model.specs.Texts.{channel_text, mark_text, name_of, port_text}
use Rattle.script_model.proofs.Numbers.{decimal_digits, number_in_back, lacks, lacks_sign, parts_back}
use Rattle.script_model.proofs.ReadBack.{name_octets, hex_back, hex_length}
use Rattle.script_model.proofs.ReadForms.{both}
use Rattle.script_model.proofs.Tokens.{is_plain, IsWord, AreWords, joined, words_of_line, text_of_line}
use Rattle.script_model.proofs.WordTexts.{decimal_word, channel_word, name_word, end_word, hex_word, word_append}
use Rattle.record_text.proofs.WordsBack.{identifier_octets}
use Rattle.trace_model.specs.declared.line.TraceLine.{TraceLine}
use Rattle.trace_model.specs.declared.refusal.TraceRefusal.{TraceRefusal}
use Rattle.trace_model.specs.Forms as forms
use Rattle.trace_model.specs.Forms.{is_default_channel, is_cell_channel, greatest_payload, flow_in}
use Rattle.trace_model.specs.Lines.{line_says, says_by, text_says, words_say, fault_name}
use Rattle.tell_trace.specs.Passages as passages
use Rattle.tell_trace.specs.Passages.{Passage, Linked, Taken, Lost, Framed, Put, Bound, end_said, line_said, passage_words, passage_line}
use Rattle.tell_trace.specs.Reading.{IsEnd, FitsMark, IsSayable}

-- *Words have their forms*
end_is_word : (t : Topology) (end : LinkEnd) → IsEnd t end → IsWord (passages.end_word t end)
end_is_word t end is = end_word (name_of t end.node) end.port is.0 is.1.1

mark_is_word : (mark : Mark) → FitsMark mark → IsWord (mark_text mark)
mark_is_word mark fits =
    word_append (decimal mark.packet) (46 ∷ decimal mark.frame) (decimal_word mark.packet (omega (arith, fits.0))) (decimal_word mark.frame fits.1).1

label_small : (c : Channel) → is_label_channel c ≡ true → (c.vpi ≤ 15) × (c.vci ≤ 1023)
label_small c is =
    let one = both (nat_lt c.vpi 16) (nat_le 32 c.vci && nat_lt c.vci 1024) is in
    let two = both (nat_le 32 c.vci) (nat_lt c.vci 1024) one.1 in
    (grind (arith, nat_tests, one.0), grind (arith, nat_tests, two.1))

channel_small : (c : Channel) → is_cell_channel c ≡ true → (c.vpi ≤ 15) × (c.vci ≤ 1023)
channel_small c is = by (is_default_channel c) refl (is_label_channel c) refl is
  where
    by : (default : Bool) → is_default_channel c ≡ default → (label : Bool) → is_label_channel c ≡ label → (default || label) ≡ true → (c.vpi ≤ 15) × (c.vci ≤ 1023)
    by true d label l e = (let one = both (c.vpi == 0) (c.vci == 15) d in (grind (arith, nat_tests, one.0), grind (arith, nat_tests, one.1)))
    by false d true l e = label_small c l
    by false d false l e = absurd (cc e)

channel_is_word : (c : Channel) → (c.vpi ≤ 15) × (c.vci ≤ 1023) → IsWord (channel_text c)
channel_is_word c small = channel_word c (omega (arith, small.0)) (omega (arith, small.1))

some_octets : (flow : FlowId) → 0 < length (identifier flow)
some_octets (One tos ttl protocol source destination source_port destination_port) = omega arith
some_octets (Two ttl source destination) = omega arith

flow_is_word : (flow : FlowId) → FitsFields flow → IsWord (hex_digits (identifier flow))
flow_is_word flow fits = hex_word (identifier flow) (some_octets flow) (identifier_octets flow fits)

are_words : (t : Topology) (p : Passage) → IsSayable t p → AreWords (passage_words t p)
are_words t (Linked first second) is = ((omega arith, refl), (end_is_word t first is.0, (end_is_word t second is.1, tt)))
are_words t (Taken end) is = ((omega arith, refl), (end_is_word t end is, tt))
are_words t (Lost end) is = ((omega arith, refl), (end_is_word t end is, tt))
are_words t (Framed mark payload) is = ((omega arith, refl), (mark_is_word mark is.0, (hex_word payload (omega (arith, is.1.0)) is.2, tt)))
are_words t (Put end channel mark) is =
    ((omega arith, refl), (end_is_word t end is.0, (channel_is_word channel (channel_small channel is.1), (mark_is_word mark is.2, tt))))
are_words t (Bound end channel flow) is =
    ((omega arith, refl), (name_word (name_of t end.node) is.0.0, (decimal_word end.port.0 (omega (arith, is.0.1.1)), (channel_is_word channel (label_small channel is.1), (flow_is_word flow is.2, tt)))))

-- *What is read of each*
name_lacks : (name : List ℕ) → is_name name ≡ true → lacks 58 name ≡ true
name_lacks name is = lacks_sign is_name_octet 58 refl name (name_octets name is)

decimal_lacks : (sign n : ℕ) → is_ascii_digit sign ≡ false → n < 2 ^ 64 → lacks sign (decimal n) ≡ true
decimal_lacks sign n no_digit few = lacks_sign is_ascii_digit sign no_digit (decimal n) (decimal_digits n few)

port_back : (port : PortNo) → IsPort port → forms.port_of (decimal port.0) ≡ Some port
port_back port is = rw (number_in_back 1 8 port.0 is.0 is.1 (omega (arith, is.1))) refl

end_back : (t : Topology) (end : LinkEnd) → IsEnd t end → forms.read_end (passages.end_word t end) ≡ Ok (end_said t end)
end_back t end is =
    let name : List ℕ = name_of t end.node in
    rw (parts_back 58 name (decimal end.port.0) (name_lacks name is.0), is.0, number_in_back 1 8 end.port.0 is.1.0 is.1.1 (omega (arith, is.1.1))) refl

mark_back : (mark : Mark) → FitsMark mark → forms.read_mark (mark_text mark) ≡ Ok mark
mark_back mark fits =
    rw (
      parts_back 46 (decimal mark.packet) (decimal mark.frame) (decimal_lacks 46 mark.packet refl (omega (arith, fits.0))),
      number_in_back 0 (2 ^ 32 - 1) mark.packet (omega arith) (omega (arith, fits.0)) (omega (arith, fits.0)),
      number_in_back 0 (2 ^ 64 - 1) mark.frame (omega arith) (omega (arith, fits.1)) fits.1,
    ) refl

channel_back : (test : Channel → Bool) (c : Channel) → (c.vpi ≤ 15) × (c.vci ≤ 1023) → test c ≡ true
    → forms.where_channel test (forms.channel_of (channel_text c)) ≡ Ok c
channel_back test c small passes =
    rw (
      parts_back 47 (decimal c.vpi) (decimal c.vci) (decimal_lacks 47 c.vpi refl (omega (arith, small.0))),
      number_in_back 0 15 c.vpi (omega arith) small.0 (omega (arith, small.0)),
      number_in_back 0 1023 c.vci (omega arith) small.1 (omega (arith, small.1)),
      passes,
    ) refl

payload_back : (payload : List ℕ) → length payload ≤ greatest_payload → AreOctets payload → forms.read_payload (hex_digits payload) ≡ Ok payload
payload_back payload few octets =
    let short : nat_lt greatest_payload (length payload) ≡ false = grind (arith, nat_tests) in
    rw (hex_back payload octets, short) refl

abbrev ok : FlowId → Result FlowId TraceRefusal
ok flow = Ok flow

identified : (flow : FlowId) → FitsFields flow → IsFlow flow → forms.flow_by (forms.kind_of_size (identifier flow)) (identifier flow) ≡ Ok flow
identified (One tos ttl protocol source destination source_port destination_port) fits is =
    let flow : FlowId = One tos ttl protocol source destination source_port destination_port in
    rw (first_fault-identifier flow is) (ap ok (flow_at-identifier flow fits))
identified (Two ttl source destination) fits is =
    let flow : FlowId = Two ttl source destination in
    rw (first_fault-identifier flow is) (ap ok (flow_at-identifier flow fits))

flow_back : (flow : FlowId) → FitsFields flow → IsFlow flow → forms.read_flow (hex_digits (identifier flow)) ≡ Ok flow
flow_back flow fits is = rw (hex_back (identifier flow) (identifier_octets flow fits)) (identified flow fits is)

words_read : (t : Topology) (p : Passage) → IsSayable t p → words_say (passage_words t p) ≡ Ok (Some (line_said t p))
words_read t (Linked first second) is = rw (end_back t first is.0, end_back t second is.1) refl
words_read t (Taken end) is = rw (end_back t end is) refl
words_read t (Lost end) is = rw (end_back t end is) refl
words_read t (Framed mark payload) is = rw (mark_back mark is.0, payload_back payload is.1.1 is.2) refl
words_read t (Put end channel mark) is =
    rw (end_back t end is.0, channel_back is_cell_channel channel (channel_small channel is.1) is.1, mark_back mark is.2) refl
words_read t (Bound end channel flow) is =
    rw (is.0.0, port_back end.port is.0.1, channel_back is_label_channel channel (label_small channel is.1) is.1, flow_back flow is.2 is.3) refl

not_blank : (t : Topology) (p : Passage) → is_blank_text (passage_words t p) ≡ false
not_blank t (Linked first second) = refl
not_blank t (Taken end) = refl
not_blank t (Lost end) = refl
not_blank t (Framed mark payload) = refl
not_blank t (Put end channel mark) = refl
not_blank t (Bound end channel flow) = refl

-- *No test refuses the line*
line_joined : (ws : List (List ℕ)) → line_of ws ≡ joined ws ++ 10 ∷ []
line_joined [] = refl
line_joined (word ∷ []) = refl
line_joined (word ∷ next ∷ ws) =
    ap (λ (rest : List ℕ). word ++ 32 ∷ rest) (line_joined (next ∷ ws)) ∙ sym (append_assoc word (32 ∷ joined (next ∷ ws)) (10 ∷ []))

plain_script : (c : ℕ) → is_plain c ≡ true → is_script_octet c ≡ true
plain_script c plain =
    let one = both (nat_lt 32 c) (nat_le c 126) plain in
    let low : nat_le 32 c ≡ true = grind (arith, nat_tests, one.0) in
    rw (low, one.1) refl

all_script : (text : List ℕ) → list_all is_plain text ≡ true → list_all is_script_octet text ≡ true
all_script [] plain = refl
all_script (c ∷ cs) plain =
    let one = both (is_plain c) (list_all is_plain cs) plain in
    rw (plain_script c one.0, all_script cs one.1) refl

joined_script : (ws : List (List ℕ)) → AreWords ws → list_all is_script_octet (joined ws) ≡ true
joined_script [] are = refl
joined_script (word ∷ []) are = all_script word are.0.1
joined_script (word ∷ next ∷ ws) are =
    list_all-append is_script_octet word (32 ∷ joined (next ∷ ws)) ∙ rw (all_script word are.0.1, joined_script (next ∷ ws) are.1) refl

no_cr : (ws : List (List ℕ)) → AreWords ws → list_all (λ octet. not (octet == 13)) (joined ws) ≡ true
no_cr [] are = refl
no_cr (word ∷ []) are = lacks_sign is_plain 13 refl word are.0.1
no_cr (word ∷ next ∷ ws) are =
    list_all-append (λ octet. not (octet == 13)) word (32 ∷ joined (next ∷ ws)) ∙ rw (lacks_sign is_plain 13 refl word are.0.1, no_cr (next ∷ ws) are.1) refl

text_is : (ws : List (List ℕ)) → AreWords ws → line_text (line_of ws) ≡ joined ws
text_is ws are = ap line_text (line_joined ws) ∙ text_of_line (joined ws) (no_cr ws are)

-- its length
name_short : (name : List ℕ) → is_name name ≡ true → length name ≤ 16
name_short name is =
    let one = both (nat_le 1 (length name)) _ is in
    let two = both (nat_le (length name) 16) _ one.1 in
    grind (arith, nat_tests, two.0)

decimal_short : (n : ℕ) → n < 2 ^ 64 → length (decimal n) ≤ 20
decimal_short n few = length-decimal-le 20 n (omega arith) (omega (arith, few)) few

end_short : (t : Topology) (end : LinkEnd) → IsEnd t end → length (passages.end_word t end) ≤ 40
end_short t end is =
    let name : List ℕ = name_of t end.node in
    omega (arith, name_short name is.0, decimal_short end.port.0 (omega (arith, is.1.1)), length-append name (58 ∷ decimal end.port.0))

mark_short : (mark : Mark) → FitsMark mark → length (mark_text mark) ≤ 41
mark_short mark fits =
    omega (arith, decimal_short mark.packet (omega (arith, fits.0)), decimal_short mark.frame fits.1, length-append (decimal mark.packet) (46 ∷ decimal mark.frame))

channel_short : (c : Channel) → (c.vpi ≤ 15) × (c.vci ≤ 1023) → length (channel_text c) ≤ 41
channel_short c small =
    omega (arith, decimal_short c.vpi (omega (arith, small.0)), decimal_short c.vci (omega (arith, small.1)), length-append (decimal c.vpi) (47 ∷ decimal c.vci))

flow_short : (flow : FlowId) → length (hex_digits (identifier flow)) ≤ 32
flow_short (One tos ttl protocol source destination source_port destination_port) =
    omega (arith, hex_length (identifier (One tos ttl protocol source destination source_port destination_port)))
flow_short (Two ttl source destination) = omega (arith, hex_length (identifier (Two ttl source destination)))

two_long : (a b : List ℕ) → length (joined (a ∷ b ∷ [])) ≡ length a + (1 + length b)
two_long a b = omega (arith, length-append a (32 ∷ b))

three_long : (a b c : List ℕ) → length (joined (a ∷ b ∷ c ∷ [])) ≡ length a + (1 + (length b + (1 + length c)))
three_long a b c = omega (arith, length-append a (32 ∷ joined (b ∷ c ∷ [])), two_long b c)

four_long : (a b c d : List ℕ) → length (joined (a ∷ b ∷ c ∷ d ∷ [])) ≡ length a + (1 + (length b + (1 + (length c + (1 + length d)))))
four_long a b c d = omega (arith, length-append a (32 ∷ joined (b ∷ c ∷ d ∷ [])), three_long b c d)

five_long : (a b c d e : List ℕ) → length (joined (a ∷ b ∷ c ∷ d ∷ e ∷ [])) ≡ length a + (1 + (length b + (1 + (length c + (1 + (length d + (1 + length e)))))))
five_long a b c d e = omega (arith, length-append a (32 ∷ joined (b ∷ c ∷ d ∷ e ∷ [])), four_long b c d e)

text_short : (t : Topology) (p : Passage) → IsSayable t p → length (joined (passage_words t p)) ≤ line_limit
text_short t (Linked first second) is =
    omega (arith, three_long (codes "link") (passages.end_word t first) (passages.end_word t second), end_short t first is.0, end_short t second is.1)
text_short t (Taken end) is = omega (arith, two_long (codes "take") (passages.end_word t end), end_short t end is)
text_short t (Lost end) is = omega (arith, two_long (codes "lost") (passages.end_word t end), end_short t end is)
text_short t (Framed mark payload) is =
    omega (arith, three_long (codes "frame") (mark_text mark) (hex_digits payload), mark_short mark is.0, hex_length payload, is.1.1)
text_short t (Put end channel mark) is =
    omega (arith, four_long (codes "put") (passages.end_word t end) (channel_text channel) (mark_text mark), end_short t end is.0, channel_short channel (channel_small channel is.1), mark_short mark is.2)
text_short t (Bound end channel flow) is =
    omega (
      arith,
      five_long (codes "bind") (name_of t end.node) (port_text end.port) (channel_text channel) (hex_digits (identifier flow)),
      name_short (name_of t end.node) is.0.0,
      decimal_short end.port.0 (omega (arith, is.0.1.1)),
      channel_short channel (label_small channel is.1),
      flow_short flow,
    )

no_fault : (before : ℕ) (t : Topology) (p : Passage) → IsSayable t p → before + length (passage_line t p) < input_limit → line_fault before (passage_line t p) ≡ None
no_fault before t p is room =
    let above : nat_le input_limit (before + length (passage_line t p)) ≡ false = grind (arith, nat_tests) in
    let free : holds_octet before (passage_line t p) input_limit ≡ false = ap (λ (b : Bool). nat_lt before input_limit && b) above ∙ never (nat_lt before input_limit) in
    let text : line_text (passage_line t p) ≡ joined (passage_words t p) = text_is (passage_words t p) (are_words t p is) in
    let short : nat_lt line_limit (length (joined (passage_words t p))) ≡ false = grind (arith, nat_tests, text_short t p is) in
    ap (λ (b : Bool). cond b (Some fault.ScriptTooLong) (text_fault (line_text (passage_line t p)))) free
    ∙ ap text_fault text
    ∙ ap (λ (b : Bool). cond b (Some fault.LineTooLong) (cond (not (list_all is_script_octet (joined (passage_words t p)))) (Some fault.BadByte) None)) short
    ∙ ap (λ (b : Bool). cond (not b) (Some fault.BadByte) None) (joined_script (passage_words t p) (are_words t p is))
  where
    never : (b : Bool) → (b && false) ≡ false
    never true = refl
    never false = refl

pub passages_read : (before : ℕ) (t : Topology) (p : Passage) → IsSayable t p → before + length (passage_line t p) < input_limit
    → line_says before (passage_line t p) ≡ Ok (Some (line_said t p))
passages_read before t p is room =
    let ws : List (List ℕ) = passage_words t p in
    let same : words (line_text (passage_line t p)) ≡ ws = words_of_line ws (are_words t p is) in
    ap (λ (o : Option LineFault). says_by (option_and_then fault_name o) (text_says (line_text (passage_line t p)))) (no_fault before t p is room)
    ∙ ap (λ (found : List (List ℕ)). cond (is_blank_text found) (nothing) (words_say found)) same
    ∙ ap (λ (b : Bool). cond b nothing (words_say ws)) (not_blank t p)
    ∙ words_read t p is
  where
    nothing : Result (Option TraceLine) TraceRefusal
    nothing = Ok None
