-- The laws of the packed table.
use Rattle.std.proofs.Common.{◌≡◌, ℕ, suc, true, List, [], ◌∷◌, map, sym, refl, ap, ◌∙◌, subst, arith}
use Rattle.std.specs.List.{slice_get}
use Rattle.packed.specs.Format.{listed_in, meaning_of, rule_in, rows}
use Rattle.packed.specs.Check.{is_lawful}
use Rattle.packed.specs.Bounds.{table_facts}
use Rattle.packed.specs.Encoding.{table_of}
use Rattle.packed.specs.Laws.{LawfulTablesAreTheEncodings, EncodingsMeanTheirGrammar, OneTableForAGrammar}
use Rattle.packed.proofs.Read.{table_read, table_passes}
use Rattle.packed.proofs.Written.{table_written, table_fits}

pub lawful_tables_are_the_encodings : LawfulTablesAreTheEncodings
lawful_tables_are_the_encodings bs bytes = record {
  encodes = λ lawful. (listed_in bs, (table_fits bs bytes (table_facts bs lawful), table_written bs bytes (table_facts bs lawful)));
  passes = λ e. subst (λ all. is_lawful all ≡ true) e.1.1 (table_passes e.0 e.1.0);
}

pub encodings_mean_their_grammar : EncodingsMeanTheirGrammar
encodings_mean_their_grammar g fits = ap meaning_of (table_read g fits)

same_list : {X : Type 0} (xs ys : List X) → ((n : ℕ) → slice_get xs n ≡ slice_get ys n) → xs ≡ ys
same_list [] [] h = refl
same_list [] (y ∷ ys) h = let e = h 0 in let z : ◌≡◌ {A = ℕ} 0 1 = cc in absurd (omega arith)
same_list (x ∷ xs) [] h = let e = h 0 in let z : ◌≡◌ {A = ℕ} 0 1 = cc in absurd (omega arith)
same_list (x ∷ xs) (y ∷ ys) h = let e = h 0 in let first : x ≡ y = cc in rw (first, same_list xs ys (λ n. h (suc n)))

pub one_table_for_a_grammar : OneTableForAGrammar
one_table_for_a_grammar bs cs bs_bytes cs_bytes bs_lawful cs_lawful same =
    let rules = same_list (map rule_in (rows bs)) (map rule_in (rows cs)) same.rule_same in
    let listed : listed_in bs ≡ listed_in cs = rw (same.start_same, same.symbols_same, rules) in
    sym (table_written bs bs_bytes (table_facts bs bs_lawful)) ∙ (ap table_of listed ∙ table_written cs cs_bytes (table_facts cs cs_lawful))
