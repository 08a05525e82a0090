-- What is appended part by part

use Rattle.std.proofs.Common.{◌≡◌, ℕ, ◌+◌, List, [], ◌∷◌, ◌++◌, append_assoc, length, take, Result, Ok, Err, OnOk, refl, sym, ap, ap₂, ◌∙◌}
use Rattle.std.specs.Prelude.{min}
use Rattle.std.proofs.lemmas.List.{length-take, take_min}
use Rattle.pcapng_blocks.specs.declared.option.OptionCode.{OptionCode}
use Rattle.pcapng_blocks.specs.Blocks.{BlockOption, block, interface_body, number_16, number_32, opt_endofopt, option_code, option_octets, options_octets, packet_body, padded, section_body, sized_octets, time_octets}

pub two_parts : (old one new a b : List ℕ) → one ≡ old ++ a → new ≡ one ++ b → new ≡ old ++ (a ++ b)
two_parts old one new a b first second = second ∙ ap (λ xs. xs ++ b) first ∙ append_assoc old a b

pub three_parts : (old one two new a b c : List ℕ) → one ≡ old ++ a → two ≡ one ++ b → new ≡ two ++ c → new ≡ old ++ (a ++ (b ++ c))
three_parts old one two new a b c first second third =
    two_parts old one new a (b ++ c) first (two_parts one two new b c second third)

-- an option of the octets of a value that it can hold
pub option_parts : (value : List ℕ) (code : OptionCode) (number n : ℕ) → number ≡ option_code code → n ≡ min 65535 (length value)
    → number_16 number ++ (number_16 n ++ padded (take n value)) ≡ option_octets (record { code = code; value = value })
unfolding option_octets
option_parts value code number n code_is size =
    ap₂ (λ k xs. number_16 k ++ xs) code_is
    (ap₂ (λ k xs. number_16 k ++ padded xs) (size ∙ sym (length-take 65535 value)) (ap (λ k. take k value) size ∙ take_min 65535 value))

pub option_told : (old one two new value : List ℕ) (code : OptionCode) (number n : ℕ) → number ≡ option_code code → n ≡ min 65535 (length value)
    → one ≡ old ++ number_16 number → two ≡ one ++ number_16 n → new ≡ two ++ padded (take n value)
    → new ≡ old ++ option_octets (record { code = code; value = value })
option_told old one two new value code number n code_is size first second third =
    three_parts old one two new (number_16 number) (number_16 n) (padded (take n value)) first second third
    ∙ ap (λ xs. old ++ xs) (option_parts value code number n code_is size)

-- options and their end
one_option : (a : BlockOption) → option_octets a ++ opt_endofopt ≡ options_octets (a ∷ [])
one_option a = sym (append_assoc (option_octets a) [] opt_endofopt)

three_options : (a b c : BlockOption) → option_octets a ++ (option_octets b ++ (option_octets c ++ opt_endofopt)) ≡ options_octets (a ∷ b ∷ c ∷ [])
three_options a b c =
    let A : List ℕ = option_octets a in
    let B : List ℕ = option_octets b in
    let C : List ℕ = option_octets c in
    sym (append_assoc A (B ++ (C ++ [])) opt_endofopt ∙ ap (λ xs. A ++ xs) (append_assoc B (C ++ []) opt_endofopt ∙ ap (λ xs. B ++ xs) (append_assoc C [] opt_endofopt)))

-- *The body of a block*
pub section_parts : (fixed : List ℕ) (a : BlockOption) → fixed ≡ 255 ∷ 255 ∷ 255 ∷ 255 ∷ 255 ∷ 255 ∷ 255 ∷ 255 ∷ []
    → number_32 0x1A2B3C4D ++ (number_16 1 ++ (number_16 0 ++ (fixed ++ (option_octets a ++ opt_endofopt)))) ≡ section_body (a ∷ [])
section_parts fixed a is =
    ap₂ (λ xs ys. number_32 0x1A2B3C4D ++ (number_16 1 ++ (number_16 0 ++ (xs ++ ys)))) is (one_option a)

pub interface_parts : (link_type : ℕ) (a b c : BlockOption)
    → number_16 link_type ++ (number_16 0 ++ (number_32 0 ++ (option_octets a ++ (option_octets b ++ (option_octets c ++ opt_endofopt))))) ≡ interface_body link_type (a ∷ b ∷ c ∷ [])
interface_parts link_type a b c = ap (λ xs. number_16 link_type ++ (number_16 0 ++ (number_32 0 ++ xs))) (three_options a b c)

pub interface_told : (old one two three four five six new : List ℕ) (link_type : ℕ) (a b c : BlockOption)
    → one ≡ old ++ number_16 link_type → two ≡ one ++ number_16 0 → three ≡ two ++ number_32 0
    → four ≡ three ++ option_octets a → five ≡ four ++ option_octets b → six ≡ five ++ option_octets c → new ≡ six ++ opt_endofopt
    → new ≡ old ++ interface_body link_type (a ∷ b ∷ c ∷ [])
interface_told old one two three four five six new link_type a b c first second third fourth fifth sixth end =
    let options : List ℕ = option_octets a ++ (option_octets b ++ (option_octets c ++ opt_endofopt)) in
    three_parts old one two new (number_16 link_type) (number_16 0) (number_32 0 ++ options) first second
    (two_parts two three new (number_32 0) options third
    (three_parts three four five new (option_octets a) (option_octets b) (option_octets c ++ opt_endofopt) fourth fifth
    (two_parts five six new (option_octets c) opt_endofopt sixth end)))
    ∙ ap (λ xs. old ++ xs) (interface_parts link_type a b c)

pub packet_parts : (interface timestamp : ℕ) (packet : List ℕ) (a : BlockOption)
    → number_32 interface ++ (time_octets timestamp ++ (sized_octets packet ++ (option_octets a ++ opt_endofopt))) ≡ packet_body interface timestamp packet (a ∷ [])
packet_parts interface timestamp packet a =
    ap (λ xs. number_32 interface ++ (time_octets timestamp ++ (sized_octets packet ++ xs))) (one_option a)

-- a body between the heads and the end of its block
pub block_parts : (body : List ℕ) (type len : ℕ) → len ≡ length body + 12
    → number_32 type ++ (number_32 len ++ (body ++ number_32 len)) ≡ block type body
block_parts body type len size = ap (λ n. number_32 type ++ (number_32 n ++ (body ++ number_32 n))) size

pub block_told : (old one two three new body : List ℕ) (type len : ℕ)
    → one ≡ old ++ number_32 type → two ≡ one ++ number_32 len → three ≡ two ++ body → new ≡ three ++ number_32 len
    → len ≡ length body + 12 → new ≡ old ++ block type body
block_told old one two three new body type len first second third fourth size =
    two_parts old one new (number_32 type) (number_32 len ++ (body ++ number_32 len)) first
    (three_parts one two three new (number_32 len) body (number_32 len) second third fourth)
    ∙ ap (λ xs. old ++ xs) (block_parts body type len size)

-- what follows from a fact of an outcome that is Ok
pub on_ok : {T E : Type 0} (outcome : Result T E) (A B : Type 0) → (A → B) → OnOk outcome A → OnOk outcome B
on_ok (Ok value) A B follows holds = follows holds
on_ok (Err error) A B follows holds = holds
