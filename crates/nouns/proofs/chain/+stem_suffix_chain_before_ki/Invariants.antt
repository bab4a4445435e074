-- The measure of `nouns::chain::stem_suffix_chain_before_ki`: the cursor, which a turn that calls has moved back.
use Rattle.nouns.proofs.chain.+stem_suffix_chain_before_ki.Given as goal

abbrev pub decreases-stem_suffix_chain_before_ki : goal.decreases-stem_suffix_chain_before_ki
decreases-stem_suffix_chain_before_ki l = l.s.c.cursor
