-- turkish.sbl, whole: its groupings, its keys and its commands, in its own order. A line ends with its number in
-- turkish.sbl where the Rust's comments give one. Held by a program against the comments and the code of the Rust (turkish.rs), from which
-- the numbers are: the sequence of commands with their lines and parentheses, literals, groupings and keys. Each routine has its name,
-- behind `define` too, as there; in a table's name a `-` stands for `_` (`A-0`). One command after another is `then`, `[` and `]` are ⟦ and ⟧, `true`
-- is `succeed`, `non-` before a grouping is `outside`, `continue_stemming_noun_suffixes` as a test is `is_set`. A routine that calls itself
-- stands in `routine`, and its call of itself is `itself`. Assumes nothing.
use Prim.Native.String.{String}
use Rattle.std.specs.Prelude.{List, [], ◌∷◌}
use Rattle.turkish.specs.Snowball.{Command, define, ◌then◌, ◌or◌, test, not, try, «do», goto, gopast, atleast, backwards, succeed, next, literal, grouping, outside, among}
use Rattle.turkish.specs.Snowball.{substring, case, ⟦, ⟧, delete, <-◌, <+◌, set, unset, is_set, strlen=, strlen==limit, routine, itself}

-- ---- groupings ----

abbrev pub vowel : String
vowel = "aeıioöuü"

abbrev pub U : String
U = "ıiuü"

abbrev pub vowel1 : String
vowel1 = "aıou"

abbrev pub vowel2 : String
vowel2 = "eiöü"

abbrev pub vowel3 : String
vowel3 = "aı"

abbrev pub vowel4 : String
vowel4 = "ei"

abbrev pub vowel5 : String
vowel5 = "ou"

abbrev pub vowel6 : String
vowel6 = "öü"

-- ---- keys, in the Rust's order ----

abbrev pub A-0 : List String
A-0 = "m" ∷ "n" ∷ "miz" ∷ "niz" ∷ "muz" ∷ "nuz" ∷ "mız" ∷ "nız" ∷ "müz" ∷ "nüz" ∷ []

abbrev pub A-1 : List String
A-1 = "leri" ∷ "ları" ∷ []

abbrev pub A-2 : List String
A-2 = "ni" ∷ "nu" ∷ "nı" ∷ "nü" ∷ []

abbrev pub A-3 : List String
A-3 = "in" ∷ "un" ∷ "ın" ∷ "ün" ∷ []

abbrev pub A-4 : List String
A-4 = "a" ∷ "e" ∷ []

abbrev pub A-5 : List String
A-5 = "na" ∷ "ne" ∷ []

abbrev pub A-6 : List String
A-6 = "da" ∷ "ta" ∷ "de" ∷ "te" ∷ []

abbrev pub A-7 : List String
A-7 = "nda" ∷ "nde" ∷ []

abbrev pub A-8 : List String
A-8 = "dan" ∷ "tan" ∷ "den" ∷ "ten" ∷ []

abbrev pub A-9 : List String
A-9 = "ndan" ∷ "nden" ∷ []

abbrev pub A-10 : List String
A-10 = "la" ∷ "le" ∷ []

abbrev pub A-11 : List String
A-11 = "ca" ∷ "ce" ∷ []

abbrev pub A-12 : List String
A-12 = "im" ∷ "um" ∷ "ım" ∷ "üm" ∷ []

abbrev pub A-13 : List String
A-13 = "sin" ∷ "sun" ∷ "sın" ∷ "sün" ∷ []

abbrev pub A-14 : List String
A-14 = "iz" ∷ "uz" ∷ "ız" ∷ "üz" ∷ []

abbrev pub A-15 : List String
A-15 = "siniz" ∷ "sunuz" ∷ "sınız" ∷ "sünüz" ∷ []

abbrev pub A-16 : List String
A-16 = "lar" ∷ "ler" ∷ []

abbrev pub A-17 : List String
A-17 = "niz" ∷ "nuz" ∷ "nız" ∷ "nüz" ∷ []

abbrev pub A-18 : List String
A-18 = "dir" ∷ "tir" ∷ "dur" ∷ "tur" ∷ "dır" ∷ "tır" ∷ "dür" ∷ "tür" ∷ []

abbrev pub A-19 : List String
A-19 = "casına" ∷ "cesine" ∷ []

abbrev pub A-20 : List String
A-20 =
    "di" ∷ "ti" ∷ "dik" ∷ "tik" ∷ "duk" ∷ "tuk" ∷ "dık" ∷ "tık" ∷ "dük" ∷ "tük"
    ∷ "dim" ∷ "tim" ∷ "dum" ∷ "tum" ∷ "dım" ∷ "tım" ∷ "düm" ∷ "tüm"
    ∷ "din" ∷ "tin" ∷ "dun" ∷ "tun" ∷ "dın" ∷ "tın" ∷ "dün" ∷ "tün"
    ∷ "du" ∷ "tu" ∷ "dı" ∷ "tı" ∷ "dü" ∷ "tü" ∷ []

abbrev pub A-21 : List String
A-21 = "sa" ∷ "se" ∷ "sak" ∷ "sek" ∷ "sam" ∷ "sem" ∷ "san" ∷ "sen" ∷ []

abbrev pub A-22 : List String
A-22 = "miş" ∷ "muş" ∷ "mış" ∷ "müş" ∷ []

abbrev pub A-23 : List String
A-23 = "b" ∷ "c" ∷ "d" ∷ "ğ" ∷ []

-- ---- routines ----

unfoldable pub check_vowel_harmony : Command
check_vowel_harmony = define "check_vowel_harmony" ( -- 111
    test  -- 112
    ( -- 113
    (goto (grouping vowel)) then  -- 114
    ( -- 115
    (literal "a" then goto (grouping vowel1)) or  -- 116
    (literal "e" then goto (grouping vowel2)) or  -- 117
    (literal "ı" then goto (grouping vowel3)) or  -- 118
    (literal "i" then goto (grouping vowel4)) or  -- 119
    (literal "o" then goto (grouping vowel5)) or  -- 120
    (literal "ö" then goto (grouping vowel6)) or  -- 121
    (literal "u" then goto (grouping vowel5)) or  -- 122
    (literal "ü" then goto (grouping vowel6))  -- 123
    )
    ))

unfoldable pub mark_suffix_with_optional_n_consonant : Command
mark_suffix_with_optional_n_consonant = define "mark_suffix_with_optional_n_consonant" ( -- 132
    (literal "n" then (test (grouping vowel)))  -- 133
    or  -- 134
    ((not (test (literal "n"))) then test (next then grouping vowel)))  -- 135

unfoldable pub mark_suffix_with_optional_s_consonant : Command
mark_suffix_with_optional_s_consonant = define "mark_suffix_with_optional_s_consonant" ( -- 143
    (literal "s" then (test (grouping vowel)))  -- 144
    or  -- 145
    ((not (test (literal "s"))) then test (next then grouping vowel)))  -- 146

unfoldable pub mark_suffix_with_optional_y_consonant : Command
mark_suffix_with_optional_y_consonant = define "mark_suffix_with_optional_y_consonant" ( -- 153
    (literal "y" then (test (grouping vowel)))  -- 154
    or  -- 155
    ((not (test (literal "y"))) then test (next then grouping vowel)))  -- 156

unfoldable pub mark_suffix_with_optional_U_vowel : Command
mark_suffix_with_optional_U_vowel = define "mark_suffix_with_optional_U_vowel" ( -- 159
    (grouping U then (test (outside vowel)))  -- 160
    or  -- 161
    ((not (test (grouping U))) then test (next then outside vowel)))  -- 162

unfoldable pub mark_possessives : Command
mark_possessives = define "mark_possessives" ( -- 166
    among A-0 then  -- 167
    (mark_suffix_with_optional_U_vowel))  -- 169

unfoldable pub mark_sU : Command
mark_sU = define "mark_sU" ( -- 172
    check_vowel_harmony then  -- 173
    grouping U then
    (mark_suffix_with_optional_s_consonant))  -- 175

unfoldable pub mark_lArI : Command
mark_lArI = define "mark_lArI" ( -- 178
    among A-1)  -- 179

unfoldable pub mark_yU : Command
mark_yU = define "mark_yU" ( -- 182
    check_vowel_harmony then  -- 183
    grouping U then
    (mark_suffix_with_optional_y_consonant))  -- 185

unfoldable pub mark_nU : Command
mark_nU = define "mark_nU" ( -- 188
    check_vowel_harmony then  -- 189
    among A-2)  -- 190

unfoldable pub mark_nUn : Command
mark_nUn = define "mark_nUn" ( -- 193
    check_vowel_harmony then  -- 194
    among A-3 then  -- 195
    (mark_suffix_with_optional_n_consonant))  -- 196

unfoldable pub mark_yA : Command
mark_yA = define "mark_yA" ( -- 199
    check_vowel_harmony then  -- 200
    among A-4 then  -- 201
    (mark_suffix_with_optional_y_consonant))  -- 202

unfoldable pub mark_nA : Command
mark_nA = define "mark_nA" ( -- 205
    check_vowel_harmony then  -- 206
    among A-5)  -- 207

unfoldable pub mark_DA : Command
mark_DA = define "mark_DA" ( -- 210
    check_vowel_harmony then  -- 211
    among A-6)  -- 212

unfoldable pub mark_ndA : Command
mark_ndA = define "mark_ndA" ( -- 215
    check_vowel_harmony then  -- 216
    among A-7)  -- 217

unfoldable pub mark_DAn : Command
mark_DAn = define "mark_DAn" ( -- 220
    check_vowel_harmony then  -- 221
    among A-8)  -- 222

unfoldable pub mark_ndAn : Command
mark_ndAn = define "mark_ndAn" ( -- 225
    check_vowel_harmony then  -- 226
    among A-9)  -- 227

unfoldable pub mark_ylA : Command
mark_ylA = define "mark_ylA" ( -- 230
    check_vowel_harmony then  -- 231
    among A-10 then  -- 232
    (mark_suffix_with_optional_y_consonant))  -- 233

unfoldable pub mark_ki : Command
mark_ki = define "mark_ki" ( -- 236
    literal "ki")  -- 237

unfoldable pub mark_ncA : Command
mark_ncA = define "mark_ncA" ( -- 240
    check_vowel_harmony then  -- 241
    among A-11 then  -- 242
    (mark_suffix_with_optional_n_consonant))  -- 243

unfoldable pub mark_yUm : Command
mark_yUm = define "mark_yUm" ( -- 246
    check_vowel_harmony then  -- 247
    among A-12 then  -- 248
    (mark_suffix_with_optional_y_consonant))  -- 249

unfoldable pub mark_sUn : Command
mark_sUn = define "mark_sUn" ( -- 252
    check_vowel_harmony then  -- 253
    among A-13)  -- 254

unfoldable pub mark_yUz : Command
mark_yUz = define "mark_yUz" ( -- 257
    check_vowel_harmony then  -- 258
    among A-14 then  -- 259
    (mark_suffix_with_optional_y_consonant))  -- 260

unfoldable pub mark_sUnUz : Command
mark_sUnUz = define "mark_sUnUz" ( -- 263
    among A-15)  -- 264

unfoldable pub mark_lAr : Command
mark_lAr = define "mark_lAr" ( -- 267
    check_vowel_harmony then  -- 268
    among A-16)  -- 269

unfoldable pub mark_nUz : Command
mark_nUz = define "mark_nUz" ( -- 272
    check_vowel_harmony then  -- 273
    among A-17)  -- 274

unfoldable pub mark_DUr : Command
mark_DUr = define "mark_DUr" ( -- 277
    check_vowel_harmony then  -- 278
    among A-18)  -- 279

unfoldable pub mark_cAsInA : Command
mark_cAsInA = define "mark_cAsInA" ( -- 282
    among A-19)  -- 283

unfoldable pub mark_yDU : Command
mark_yDU = define "mark_yDU" ( -- 286
    check_vowel_harmony then  -- 287
    among A-20 then  -- 288
    (mark_suffix_with_optional_y_consonant))  -- 292

unfoldable pub mark_ysA : Command
mark_ysA = define "mark_ysA" ( -- 296
    among A-21 then  -- 297
    (mark_suffix_with_optional_y_consonant))  -- 298

unfoldable pub mark_ymUs_ : Command
mark_ymUs_ = define "mark_ymUs_" ( -- 301
    check_vowel_harmony then  -- 302
    among A-22 then  -- 303
    (mark_suffix_with_optional_y_consonant))  -- 304

unfoldable pub mark_yken : Command
mark_yken = define "mark_yken" ( -- 307
    literal "ken" then (mark_suffix_with_optional_y_consonant))  -- 308

unfoldable pub stem_nominal_verb_suffixes : Command
stem_nominal_verb_suffixes = define "stem_nominal_verb_suffixes" ( -- 311
    ⟦ then  -- 312
    set then  -- 313
    (mark_ymUs_ or mark_yDU or mark_ysA or mark_yken)  -- 314
    or  -- 315
    (mark_cAsInA then (mark_sUnUz or mark_lAr or mark_yUm or mark_sUn or mark_yUz or succeed) then mark_ymUs_)  -- 316
    or
    ( -- 318
    mark_lAr then ⟧ then delete then try (⟦ then (mark_DUr or mark_yDU or mark_ysA or mark_ymUs_)) then  -- 319
    unset  -- 320
    )
    or
    (mark_nUz then (mark_yDU or mark_ysA))  -- 323
    or
    ((mark_sUnUz or mark_yUz or mark_sUn or mark_yUm) then ⟧ then delete then try (⟦ then mark_ymUs_))  -- 325
    or
    ( -- 327
    mark_DUr then ⟧ then delete then try  -- 327
    (⟦ then (mark_sUnUz or mark_lAr or mark_yUm or mark_sUn or mark_yUz or succeed) then mark_ymUs_)  -- 327
    ) then
    ⟧ then delete)  -- 328

unfoldable pub stem_suffix_chain_before_ki : Command
stem_suffix_chain_before_ki = define "stem_suffix_chain_before_ki" (routine ( -- 332
    ⟦ then  -- 333
    mark_ki then  -- 334
    ( -- 335
    (mark_DA then ⟧ then delete then try (⟦ then  -- 336
    (mark_lAr then ⟧ then delete then try (itself))  -- 337
    or  -- 338
    (mark_possessives then ⟧ then delete then try (⟦ then mark_lAr then ⟧ then delete then itself))  -- 339
    ))
    or  -- 342
    (mark_nUn then ⟧ then delete then try (⟦ then  -- 343
    (mark_lArI then ⟧ then delete)  -- 344
    or  -- 345
    (⟦ then mark_possessives or mark_sU then ⟧ then delete then try (⟦ then mark_lAr then ⟧ then delete then itself))  -- 346
    or
    (itself)  -- 348
    ))
    or
    (mark_ndA then ( -- 351
    (mark_lArI then ⟧ then delete)  -- 352
    or  -- 353
    ((mark_sU then ⟧ then delete then try (⟦ then mark_lAr then ⟧ then delete then itself)))  -- 354
    or
    (itself)  -- 356
    ))
    )))

unfoldable pub stem_noun_suffixes : Command
stem_noun_suffixes = define "stem_noun_suffixes" ( -- 361
    (⟦ then mark_lAr then ⟧ then delete then try (stem_suffix_chain_before_ki))  -- 362
    or  -- 363
    (⟦ then mark_ncA then ⟧ then delete then  -- 364
    try ( -- 365
    (⟦ then mark_lArI then ⟧ then delete)  -- 366
    or  -- 367
    (⟦ then mark_possessives or mark_sU then ⟧ then delete then try (⟦ then mark_lAr then ⟧ then delete then stem_suffix_chain_before_ki))  -- 368
    or
    (⟦ then mark_lAr then ⟧ then delete then stem_suffix_chain_before_ki)  -- 370
    ))
    or
    (⟦ then (mark_ndA or mark_nA) then  -- 374
    ( -- 375
    (mark_lArI then ⟧ then delete)  -- 376
    or  -- 377
    (mark_sU then ⟧ then delete then try (⟦ then mark_lAr then ⟧ then delete then stem_suffix_chain_before_ki))  -- 378
    or
    (stem_suffix_chain_before_ki)  -- 380
    ))
    or
    (⟦ then (mark_ndAn or mark_nU) then  -- 384
    ((mark_sU then ⟧ then delete then try (⟦ then mark_lAr then ⟧ then delete then stem_suffix_chain_before_ki)) or (mark_lArI)))  -- 384
    or
    (⟦ then mark_DAn then ⟧ then delete then try (⟦ then  -- 386
    ( -- 387
    (mark_possessives then ⟧ then delete then try (⟦ then mark_lAr then ⟧ then delete then stem_suffix_chain_before_ki))  -- 388
    or  -- 389
    (mark_lAr then ⟧ then delete then try (stem_suffix_chain_before_ki))  -- 390
    or
    (stem_suffix_chain_before_ki)  -- 392
    )))
    or
    (⟦ then mark_nUn or mark_ylA then ⟧ then delete then  -- 396
    try ( -- 397
    (⟦ then mark_lAr then ⟧ then delete then stem_suffix_chain_before_ki)  -- 398
    or  -- 399
    (⟦ then mark_possessives or mark_sU then ⟧ then delete then try (⟦ then mark_lAr then ⟧ then delete then stem_suffix_chain_before_ki))  -- 400
    or
    stem_suffix_chain_before_ki  -- 402
    ))
    or
    (⟦ then mark_lArI then ⟧ then delete)  -- 406
    or
    (stem_suffix_chain_before_ki)  -- 408
    or
    (⟦ then mark_DA or mark_yU or mark_yA then ⟧ then delete then try (⟦ then  -- 410
    ((mark_possessives then ⟧ then delete then try (⟦ then mark_lAr)) or mark_lAr) then  -- 410
    ⟧ then delete then ⟦ then stem_suffix_chain_before_ki))  -- 410
    or
    (⟦ then mark_possessives or mark_sU then ⟧ then delete then try (⟦ then mark_lAr then ⟧ then delete then stem_suffix_chain_before_ki)))  -- 412

unfoldable pub post_process_last_consonants : Command
post_process_last_consonants = define "post_process_last_consonants" ( -- 415
    ⟦ then substring A-23 then ⟧ then  -- 416
    case 1 (<- "p") then  -- 417
    case 2 (<- "ç") then  -- 418
    case 3 (<- "t") then  -- 419
    case 4 (<- "k"))  -- 420

unfoldable pub append_U_to_stems_ending_with_d_or_g : Command
append_U_to_stems_ending_with_d_or_g = define "append_U_to_stems_ending_with_d_or_g" ( -- 430
    test (literal "d" or literal "g") then  -- 431
    (test ((goto (grouping vowel)) then literal "a" or literal "ı") then <+ "ı")  -- 432
    or  -- 433
    (test ((goto (grouping vowel)) then literal "e" or literal "i") then <+ "i")  -- 434
    or
    (test ((goto (grouping vowel)) then literal "o" or literal "u") then <+ "u")  -- 436
    or
    (test ((goto (grouping vowel)) then literal "ö" or literal "ü") then <+ "ü"))  -- 438

unfoldable pub more_than_one_syllable_word : Command
more_than_one_syllable_word = define "more_than_one_syllable_word" ( -- 445
    test (atleast 2 (gopast (grouping vowel))))  -- 446

unfoldable pub is_reserved_word : Command
is_reserved_word = define "is_reserved_word" ( -- 449
    test (gopast (literal "ad") then (strlen= 2) then (strlen==limit))  -- 450
    or  -- 451
    test (gopast (literal "soyad") then (strlen= 5) then (strlen==limit)))  -- 452

unfoldable pub postlude : Command
postlude = define "postlude" ( -- 455
    not (is_reserved_word) then  -- 456
    backwards ( -- 457
    «do» append_U_to_stems_ending_with_d_or_g then  -- 458
    «do» post_process_last_consonants))  -- 459

unfoldable pub stem : Command
stem = define "stem" ( -- 464
    (more_than_one_syllable_word) then  -- 465
    ( -- 466
    backwards ( -- 467
    «do» stem_nominal_verb_suffixes then  -- 468
    is_set then  -- 469
    «do» stem_noun_suffixes) then  -- 470
    postlude))  -- 473
