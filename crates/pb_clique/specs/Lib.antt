pub mod Cliques
