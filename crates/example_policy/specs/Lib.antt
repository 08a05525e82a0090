pub mod Throughput
